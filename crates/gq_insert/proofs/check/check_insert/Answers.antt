use Rattle.std.proofs.Common.{Option, subst, ap, ◌∙◌}
use Rattle.gq_load_check.specs.declared.job.Target.{Target}
use Rattle.gq_insert.specs.Inserts as spec
use Rattle.gq_insert.proofs.check.check_insert.Goals as goal

pub returns-in-Some-clause-judged : goal.returns-in-Some-clause-judged
returns-in-Some-clause-judged c read tells =
    let P : Option Target → Type 0 = λ o. spec.Judges (spec.values_refusal read c.args.catalog.now c.args.tree.now o) c.checked.result in
    subst P (c.in-Some.ensures.named ∙ ap (spec.target_named c.args.catalog.now) c.as_str.ensures) (c.checked.ensures.judged read tells)
