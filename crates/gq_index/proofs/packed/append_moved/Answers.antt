use Rattle.std.proofs.Common.{◌≡◌, ◌∙◌, ◌+◌, ◌++◌, map, take, refl, arith}
use Rattle.gq_index.specs.Packed.{moved, span_at}
use Rattle.gq_index.proofs.PackedLemmas.{moved_apart, moved_more}
use Rattle.gq_index.proofs.packed.append_moved.Goals as goal

pub loop-span-preserved : goal.loop-span-preserved
loop-span-preserved c =
    let old = c.args.spans.now.items in let others = c.args.others.now in let i = c.loop-span.span-index in let first = c.args.first in
    let all : c.push.new.self.items ≡ old ++ map (moved first) (take (i + 1) others) =
    c.in_ok-push.ensures.items ∙ moved_more old c.loop-span.spans.items others first i (span_at others i) c.loop-span-test.true refl c.loop-span.invariant.spans in
    record {
      apart = moved_apart old c.push.new.self.items others first c.args.limit (i + 1) c.requires.within (omega (arith, c.loop-span-test.true)) c.requires.apart c.requires.others all;
      spans = all;
    }
