use Rattle.std.proofs.Common.{refl, sym, subst, ◌∙◌}
use Rattle.gq_arguments.specs.Holds.{held}
use Rattle.gq_diagnostics.specs.declared.refusal.Refusal.TheVariants as refusal
use Rattle.gq_rules_calendar.specs.Gregorian.{gregorian}
use Rattle.gq_rules_typing.specs.Statements.{Bytes}
use Rattle.gq_arguments.specs.Rows as rows
use Rattle.gq_query_run.specs.Runs.{answer_found}
use Rattle.gq_query_run.proofs.AnswerLemmas.{told}
use Rattle.gq_query_run.proofs.RunLemmas.{installed_on, installed_tells, not_installed}
use Rattle.gq_query_run.proofs.run.run_found.Goals as goal

pub run_at-requires-clause-runs : goal.run_at-requires-clause-runs
run_at-requires-clause-runs g c κs within =
    installed_on c.args.catalog.now c.args.store.now gregorian c.args.runner.now.turns c.args.query.now c.args.tree.now (held c.args.file.now)
    c.arguments_of-arguments.result (sym c.is_installed.ensures ∙ c.if-is_installed.true) c.arguments_of-arguments.ensures c.requires.runs

pub returns-then-is_installed-clause-tells : goal.returns-then-is_installed-clause-tells
returns-then-is_installed-clause-tells g c =
    installed_tells c.args.catalog.now c.args.store.now gregorian c.args.runner.now.turns c.args.query.now c.args.tree.now (held c.args.file.now)
    c.args.query.now.graph c.args.query.now.tree c.arguments_of-arguments.result c.run_at.result refl refl (sym c.is_installed.ensures ∙ c.if-is_installed.true)
    c.arguments_of-arguments.ensures c.run_at.ensures.tells

pub returns-else-is_installed-clause-tells : goal.returns-else-is_installed-clause-tells
returns-else-is_installed-clause-tells g c =
    let P : Bytes → Type 0 = λ n. rows.Tells (refusal.NotInstalled n) c.not_installed.result in
    told (answer_found c.args.catalog.now c.args.store.now gregorian c.args.runner.now.turns c.args.query.now c.args.tree.now (held c.args.file.now))
    (refusal.NotInstalled c.args.tree.now.name) c.not_installed.result
    (not_installed c.args.catalog.now c.args.store.now gregorian c.args.runner.now.turns c.args.query.now c.args.tree.now (held c.args.file.now) (sym c.is_installed.ensures ∙ c.if-is_installed.false))
    (subst P c.as_str.ensures c.not_installed.ensures)
