use Rattle.std.proofs.Common.{◌≢◌, ℕ, List, Option, map, ap, sym, subst, ◌∙◌}
use Rattle.std.specs.Prelude.{Result, Err}
use Rattle.gq_value.specs.Val.{Val}
use Rattle.gq_value.specs.Views.{val}
use Rattle.gq_diagnostics.specs.declared.refusal.Refusal.{Refusal}
use Rattle.gq_tree.specs.declared.query.ParameterTree.{ParameterTree}
use Rattle.gq_tree.specs.declared.query.QueryTree.{QueryTree}
use Rattle.gq_scope.specs.Held.{graph_in}
use Rattle.gq_rules_calendar.specs.Gregorian.{gregorian}
use Rattle.gq_rules_meaning.specs.Answers.{Stuck}
use Rattle.gq_rules_meaning.specs.Queries.{run_query}
use Rattle.gq_rules_typing.specs.Sorts.{sorts_of}
use Rattle.gq_rules_typing.specs.StatementViews.{view_parameter, view_query}
use Rattle.gq_arguments.specs.Rows.{Gives, values_given}
use Rattle.gq_query_run.specs.Answers.{Tells}
use Rattle.gq_query_run.specs.Runs.{answer_given}
use Rattle.gq_query_run.specs.Sessions.{graph_read}
use Rattle.gq_query_run.proofs.AnswerLemmas.{denied, given_runs}
use Rattle.gq_query_run.proofs.run.run_with.Goals as goal

pub returns-in-Err-clause-tells : goal.returns-in-Err-clause-tells
returns-in-Err-clause-tells g c =
    let q = c.args.query.now in
    let vertices = c.args.store.now.vertices in
    let From : Option ℕ → List ParameterTree → Type 0 =
    λ graph ps. Gives (values_given (sorts_of c.args.catalog.now (graph_in c.args.catalog.now graph)) vertices (map view_parameter ps) c.args.arguments) (Err c.in-Err.fault) in
    let ForGraph : Option ℕ → Type 0 = λ graph. From graph c.as_slice-parameters.result.now in
    let Of : List ParameterTree → Type 0 = λ ps. From q.graph ps in
    denied (graph_read c.args.catalog.now q.graph c.args.store.now) gregorian c.args.runner.now.turns (view_query q.tree)
    (values_given (sorts_of c.args.catalog.now (graph_in c.args.catalog.now q.graph)) vertices (map view_parameter q.tree.parameters) c.args.arguments) c.in-Err.fault
    (subst Of (c.as_slice-parameters.ensures ∙ ap (λ (t : QueryTree). t.parameters) c.tree-tree.ensures) (subst ForGraph c.graph-graph.ensures c.in-Err.ensures))

pub returns-in-Ok-prepare_at-clause-tells : goal.returns-in-Ok-prepare_at-clause-tells
returns-in-Ok-prepare_at-clause-tells g c =
    let q = c.args.query.now in
    let W : Option ℕ → List ParameterTree → Result (List Val) Refusal =
    λ graph ps. values_given (sorts_of c.args.catalog.now (graph_in c.args.catalog.now graph)) c.args.store.now.vertices (map view_parameter ps) c.args.arguments in
    let Over : Option ℕ → QueryTree → Result (List Val) Refusal → Type 0 =
    λ graph t values. Tells (answer_given (graph_read c.args.catalog.now graph c.args.store.now) gregorian c.args.runner.now.turns (view_query t) values) c.line_over.result in
    let values = W c.graph-graph.result c.as_slice-parameters.result.now in
    let OfValues : Result (List Val) Refusal → Type 0 = λ vs. Over c.graph-graph.result c.tree-tree.result.now vs in
    let OfTree : QueryTree → Type 0 = λ t. Over c.graph-graph.result t values in
    let OfGraph : Option ℕ → Type 0 = λ graph. Over graph q.tree values in
    let OfGiven : Result (List Val) Refusal → Type 0 = λ vs. Over q.graph q.tree vs in
    subst OfGiven (ap (λ graph. W graph c.as_slice-parameters.result.now) c.graph-graph.ensures
    ∙ ap (W q.graph) (c.as_slice-parameters.ensures ∙ ap (λ (t : QueryTree). t.parameters) c.tree-tree.ensures))
    (subst OfGraph c.graph-graph.ensures (subst OfTree c.tree-tree.ensures (subst OfValues (sym c.in-Ok.ensures) c.line_over.ensures)))

pub line_over-requires-clause-runs : goal.line_over-requires-clause-runs
line_over-requires-clause-runs g c κs within =
    let q = c.args.query.now in
    let W : Option ℕ → List ParameterTree → Result (List Val) Refusal =
    λ graph ps. values_given (sorts_of c.args.catalog.now (graph_in c.args.catalog.now graph)) c.args.store.now.vertices (map view_parameter ps) c.args.arguments in
    let Over : Option ℕ → QueryTree → Type 0 =
    λ graph t. run_query (graph_read c.args.catalog.now graph c.args.store.now) gregorian (view_query t) (map val c.in-Ok.row) c.args.runner.now.turns ≢ Stuck in
    let OfTree : QueryTree → Type 0 = λ t. Over c.graph-graph.result t in
    let OfGraph : Option ℕ → Type 0 = λ graph. Over graph q.tree in
    subst OfTree (sym c.tree-tree.ensures) (subst OfGraph (sym c.graph-graph.ensures)
    (given_runs (graph_read c.args.catalog.now q.graph c.args.store.now) gregorian c.args.runner.now.turns (view_query q.tree) (W q.graph q.tree.parameters) (map val c.in-Ok.row)
    (ap (W q.graph) (sym (c.as_slice-parameters.ensures ∙ ap (λ (t : QueryTree). t.parameters) c.tree-tree.ensures))
    ∙ ap (λ graph. W graph c.as_slice-parameters.result.now) (sym c.graph-graph.ensures) ∙ c.in-Ok.ensures)
    c.requires.runs))
