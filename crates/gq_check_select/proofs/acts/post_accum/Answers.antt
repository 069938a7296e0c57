use Rattle.std.proofs.Common.{rules, ◌∙◌, ◌+◌, ap, sym, subst, ℕ, drop}
use Rattle.std.specs.Option.{option_copied}
use Rattle.gq_rules_typing.specs.Judging.{Judged, ◌>>=◌}
use Rattle.gq_rules_typing.specs.ActTypes.{typing_post}
use Rattle.gq_rules_typing.specs.SelectViews.{view_acts}
use Rattle.gq_scope.specs.Held.{scope_in}
use Rattle.gq_check_from.specs.Faults.{Judges}
use Rattle.gq_check_select.proofs.ActPlaceLemmas.{post_more}
use Rattle.gq_check_select.proofs.acts.post_accum.Goals as goal

pub returns-in_err-total : goal.returns-in_err-total
returns-in_err-total c =
    subst (λ (j : Judged ℕ). Judges {A = ℕ} {B = ℕ} (λ n. n) j c.from_residual.result)
    (sym (c.loop-item.invariant ∙ post_more c.args.scope.now (option_copied c.args.source) (option_copied c.args.target) c.loop-item.total
    c.args.list.now c.loop-item.item-index c.item-item.result c.loop-item-test.true c.item-item.is))
    (search rules)

pub loop-item-preserved : goal.loop-item-preserved
loop-item-preserved c =
    let source = option_copied c.args.source in
    let target = option_copied c.args.target in
    c.loop-item.invariant ∙ post_more c.args.scope.now source target c.loop-item.total c.args.list.now c.loop-item.item-index c.item-item.result c.loop-item-test.true c.item-item.is
    ∙ ap (λ (j : Judged ℕ). j >>= λ k. typing_post (scope_in c.args.scope.now) source target k (view_acts (drop (c.loop-item.item-index + 1) c.args.list.now))) c.in_ok-total.ensures
