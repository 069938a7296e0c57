use Rattle.std.proofs.Common.{map, ap, sym, subst, ◌∙◌}
use Rattle.std.specs.Prelude.{Result}
use Rattle.gq_value.specs.Views.{val}
use Rattle.gq_json.specs.declared.out.Printed.{Printed}
use Rattle.gq_rules_calendar.specs.Gregorian.{gregorian}
use Rattle.gq_rules_typing.specs.Statements.{Bytes}
use Rattle.gq_rules_typing.specs.StatementViews.{view_query}
use Rattle.gq_rules_meaning.specs.Messages.{answer_of_run, slot_names}
use Rattle.gq_rules_meaning.specs.Queries.{run_query}
use Rattle.gq_query_run.specs.Answers.{Objects, Tells}
use Rattle.gq_query_run.specs.Sessions.{graph_read}
use Rattle.gq_query_run.proofs.AnswerLemmas.{stuck_runs}
use Rattle.gq_query_run.proofs.line.line_over.Goals as goal

pub returns-in-Ok : goal.returns-in-Ok
returns-in-Ok g c =
    let ran = c.in-Ok.ensures c.args.graph (view_query c.args.query.now) c.requires.prepared in
    let P : Result Objects Bytes → Type 0 = λ meant. Tells meant c.line_of.result in
    subst P (sym (ap (answer_of_run (slot_names (view_query c.args.query.now).definitions) c.args.runner.now.turns) ran.1))
    (c.line_of.ensures ran.0 (ap (map (λ (p : Printed). p.members)) c.as_slice.ensures ∙ ran.2))

pub refused-requires : goal.refused-requires
refused-requires g c is =
    c.requires.runs
    (stuck_runs (run_query (graph_read c.args.catalog.now c.args.graph c.args.store.now) gregorian (view_query c.args.query.now) (map val c.args.arguments.now) c.args.runner.now.turns) c.in-Err.fault is
    (c.in-Err.ensures c.args.graph (view_query c.args.query.now) c.requires.prepared))

pub returns-in-Err : goal.returns-in-Err
returns-in-Err g c =
    c.refused.ensures
    (run_query (graph_read c.args.catalog.now c.args.graph c.args.store.now) gregorian (view_query c.args.query.now) (map val c.args.arguments.now) c.args.runner.now.turns)
    (c.in-Err.ensures c.args.graph (view_query c.args.query.now) c.requires.prepared)

pub run-requires-clause-prepared : goal.run-requires-clause-prepared
run-requires-clause-prepared g c = (c.args.graph, view_query c.args.query.now, c.requires.prepared)
