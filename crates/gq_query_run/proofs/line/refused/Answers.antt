use Rattle.std.proofs.Common.{ap, sym, subst, ◌∙◌}
use Rattle.std.specs.Prelude.{Err}
use Rattle.gq_diagnostics.specs.declared.refusal.Refusal.TheVariants as refusal
use Rattle.gq_rules_typing.specs.StatementViews.{view_query}
use Rattle.gq_rules_meaning.specs.Messages.{answer_of_run, name_at, slot_names}
use Rattle.gq_query_run.specs.declared.runner.QueryFault.{QueryFault}
use Rattle.gq_query_run.specs.Runs.{Runs}
use Rattle.gq_query_run.proofs.AnswerLemmas.{told}
use Rattle.gq_query_run.proofs.line.refused.Goals as goal

pub returns-in-Wrong : goal.returns-in-Wrong
returns-in-Wrong c answer runs =
    let P : QueryFault → Type 0 = λ f. Runs answer (Err f) in
    ap (answer_of_run (slot_names (view_query c.args.query.now).definitions) c.args.turns) (subst P c.in-Wrong.is runs) ∙ ap Err (sym c.wrong_refusal.ensures)

pub returns-in-SumRange : goal.returns-in-SumRange
returns-in-SumRange c answer runs =
    let P : QueryFault → Type 0 = λ f. Runs answer (Err f) in
    let names = slot_names (view_query c.args.query.now).definitions in
    told (answer_of_run names c.args.turns answer) (refusal.SumOutOfRange (name_at names c.in-SumRange.slot)) c.sum_range.result
    (ap (answer_of_run names c.args.turns) (subst P c.in-SumRange.is runs)) c.sum_range.ensures

pub returns-in-LoopBound : goal.returns-in-LoopBound
returns-in-LoopBound c answer runs =
    let P : QueryFault → Type 0 = λ f. Runs answer (Err f) in
    ap (answer_of_run (slot_names (view_query c.args.query.now).definitions) c.args.turns) (subst P c.in-LoopBound.is runs)

pub returns-in-PathBound : goal.returns-in-PathBound
returns-in-PathBound c answer runs =
    let P : QueryFault → Type 0 = λ f. Runs answer (Err f) in
    ap (answer_of_run (slot_names (view_query c.args.query.now).definitions) c.args.turns) (subst P c.in-PathBound.is runs)
