use Rattle.std.proofs.Common.{◌≢◌, ◌<◌, length, ℕ, List, [], map, Option, sym, subst}
use Rattle.std.specs.Option.{ForSome}
use Rattle.gq_value.specs.declared.value.Value.{Value}
use Rattle.gq_value.specs.Views.{val}
use Rattle.gq_rules_calendar.specs.Gregorian.{gregorian}
use Rattle.gq_rules_typing.specs.StatementViews.{view_query}
use Rattle.gq_rules_meaning.specs.Answers.{Stuck}
use Rattle.gq_rules_meaning.specs.Queries.{run_query}
use Rattle.gq_rules_meaning.specs.Sessions.{interpreted}
use Rattle.gq_query_run.specs.Judging.{IsTyped, interpret_refusal}
use Rattle.gq_query_run.specs.Queries.{graph_fixed}
use Rattle.gq_query_run.specs.Answers.{Tells}
use Rattle.gq_query_run.specs.Runs.{answer_over}
use Rattle.gq_query_run.specs.Sessions.{graph_read, session_of}
use Rattle.gq_query_run.proofs.AnswerLemmas.{says, says_judged}
use Rattle.gq_query_run.proofs.InterpretLemmas.{interpreted_due, interpreted_on, interpreted_runs}
use Rattle.gq_query_run.proofs.TypedLemmas.{graph_is_there, interpreted_typed}
use Rattle.gq_query_run.proofs.interpret.interpret_query.Goals as goal

pub prepare-requires-clause-there : goal.prepare-requires-clause-there
prepare-requires-clause-there g c =
    let P : Option ℕ → Type 0 = λ graph. ForSome graph (λ n. n < length c.args.catalog.now.graphs) in
    subst P (sym c.graph_of-graph.ensures) (graph_is_there c.args.catalog.now c.args.in_use c.requires.there c.args.tree.now.graph)

pub prepare-requires-clause-typed : goal.prepare-requires-clause-typed
prepare-requires-clause-typed g c =
    let P : Option ℕ → Type 0 = λ graph. IsTyped c.args.catalog.now graph c.args.tree.now in
    subst P (sym c.graph_of-graph.ensures) (interpreted_typed c.args.catalog.now c.args.in_use c.args.tree.now c.in-Ok.ensures)

pub line_over-requires-clause-runs : goal.line_over-requires-clause-runs
line_over-requires-clause-runs g c κs within =
    let tree = c.args.tree.now in
    let For : Option ℕ → List Value → Type 0 =
    λ n vs. run_query (graph_read c.args.catalog.now n c.args.store.now) gregorian (view_query tree) (map val vs) c.args.runner.now.turns ≢ Stuck in
    let OfGraph : Option ℕ → Type 0 = λ n. For n c.new-none.result in
    let Over : List Value → Type 0 = λ vs. For (graph_fixed c.args.catalog.now c.args.in_use tree) vs in
    subst OfGraph (sym c.graph_of-graph.ensures) (subst Over (sym c.new-none.ensures)
    (interpreted_on c.args.catalog.now c.args.in_use c.requires.runs.0 c.args.store.now gregorian c.args.runner.now.turns tree c.in-Ok.ensures c.requires.runs.1))

pub returns-in-Ok-prepare : goal.returns-in-Ok-prepare
returns-in-Ok-prepare g c queries =
    let s = session_of c.args.catalog.now c.args.in_use queries c.args.store.now in
    let tree = c.args.tree.now in
    let graph = graph_fixed c.args.catalog.now c.args.in_use tree in
    let clock = gregorian in
    let For : Option ℕ → Type 0 = λ n. Tells (answer_over (graph_read c.args.catalog.now n c.args.store.now) clock c.args.runner.now.turns (view_query tree) (map val c.new-none.result)) c.line_over.result in
    let Over : List Value → Type 0 = λ vs. Tells (answer_over (graph_read c.args.catalog.now graph c.args.store.now) clock c.args.runner.now.turns (view_query tree) (map val vs)) c.line_over.result in
    says s (interpreted s clock c.args.runner.now.turns tree.graph tree.modes (view_query tree)) (answer_over (graph_read c.args.catalog.now graph c.args.store.now) clock c.args.runner.now.turns (view_query tree) []) c.line_over.result
    (interpreted_runs c.args.catalog.now c.args.in_use queries c.args.store.now clock c.args.runner.now.turns tree c.in-Ok.ensures)
    (subst Over c.new-none.ensures (subst For c.graph_of-graph.ensures c.line_over.ensures))

pub returns : goal.returns
returns g c queries =
    let s = session_of c.args.catalog.now c.args.in_use queries c.args.store.now in
    let tree = c.args.tree.now in
    says_judged s (interpreted s gregorian c.args.runner.now.turns tree.graph tree.modes (view_query tree)) (interpret_refusal c.args.catalog.now c.args.in_use tree) c.in-Err.fault
    (λ r is. interpreted_due c.args.catalog.now c.args.in_use queries c.args.store.now gregorian c.args.runner.now.turns tree r is) c.in-Err.ensures
