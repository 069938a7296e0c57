use Rattle.std.proofs.Common.{◌+◌, ◌∷◌, [], None, ap, refl, ◌∙◌}
use Rattle.std.specs.Prelude.{length}
use Rattle.std.proofs.lemmas.List.{length-append}
use Rattle.gq_frame.proofs.LookupLemmas.{lives_more}
use Rattle.gq_frame.proofs.live.Live.reach.Goals as goal

pub loop-more-preserved : goal.loop-more-preserved
loop-more-preserved c = record {
  names = λ s l. lives_more c.loop-more.self _ s c.in_ok-push.ensures.ok refl refl (c.loop-more.invariant.names s l);
  there = ap length c.in_ok-push.ensures.ok ∙ length-append c.loop-more.self.frame.things (None ∷ []) ∙ ap (λ n. n + 1) c.loop-more.invariant.there;
  accums = c.loop-more.invariant.accums;
}
