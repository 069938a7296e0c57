use Rattle.std.proofs.Common.{◌+◌, ◌<◌, ◌≡◌, ◌∙◌, ap, sym, length, get_or, drop, arith, length-set, false}
use Rattle.std.proofs.lemmas.Option.{get_or_from_slice_get}
use Rattle.gq_value.specs.declared.value.Value.TheVariants.{Bool}
use Rattle.gq_graph.proofs.SpanLemmas.{same_here, same_behind, moved_more}
use Rattle.gq_graph.proofs.row_values.move_all.Goals as goal

pub loop-at-preserved : goal.loop-at-preserved
loop-at-preserved c =
    let x = c.take_out.result in let row = c.args.row.now in let at = c.loop-at.at in
    let low : at < length row = omega (arith, c.loop-at-test.true, c.len-at-end.ensures) in
    let here : x ≡ get_or row at x =
    sym (get_or_from_slice_get c.loop-at.row at x x c.take_out.ensures.value) ∙ same_here c.loop-at.row row at x c.loop-at.invariant.rest in
    record {
      moved = c.in_ok-push.ensures.items ∙ moved_more c.args.values.now.items row c.loop-at.values.items at x x c.loop-at.invariant.moved low here;
      rest = ap (drop (at + 1)) c.take_out.ensures.others ∙ same_behind c.loop-at.row row at (Bool false) c.loop-at.invariant.rest;
      long = ap length c.take_out.ensures.others ∙ length-set c.loop-at.row at (Bool false) ∙ c.loop-at.invariant.long;
    }
