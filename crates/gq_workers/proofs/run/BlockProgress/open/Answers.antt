use Rattle.std.proofs.Common.{◌≤◌, length, refl, ap, ◌∙◌, subst}
use Rattle.gq_frame.specs.Targets.{ShowTheSame}
use Rattle.gq_frame.specs.Slots.{AreSound}
use Rattle.gq_eval_context.specs.Viewed.{Over}
use Rattle.gq_workers.proofs.FeedLemmas.{none_fed}
use Rattle.gq_workers.proofs.RunLemmas.{begun}
use Rattle.gq_workers.proofs.run.BlockProgress.open.Goals as goal

pub returns : goal.returns
returns c = begun c.args.over.now (record { at = 0; accums = c.in_ok-share.field-0; fed = 0; found = c.in_ok-open.field-0; room = c.new.result }) c.len.result refl
    (none_fed c.args.over.now c.in_ok-share.field-0 (subst (λ (o : Over). AreSound o.frame.accums) c.over.view_is c.over.invariant.accums)
    (c.in_ok-share.ensures.slots ∙ ap (λ (o : Over). o.frame.accums.slots) c.over.view_is)
    (subst (λ (o : Over). ShowTheSame o.frame.accums.contents c.in_ok-share.field-0.contents) c.over.view_is c.in_ok-share.ensures.same))
    c.in_ok-open.ensures
    (c.len.ensures.count ∙ ap (λ (o : Over). length o.vertices) c.over.view_is)
    (subst (λ (o : Over). length o.vertices ≤ 4194304) c.over.view_is c.len.ensures.few)
