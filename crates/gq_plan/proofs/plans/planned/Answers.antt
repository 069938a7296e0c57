use Rattle.std.proofs.Common.{◌≡◌, ◌≢◌, List, Some, None, map, ap, ◌∙◌, subst, rules}
use Rattle.std.specs.List.{list_any}
use Rattle.gq_tree.specs.declared.body.Stmt.{Stmt}
use Rattle.gq_tree.specs.declared.kind.DefinitionTree.{DefinitionTree}
use Rattle.gq_tree.specs.declared.query.ParameterTree.{ParameterTree}
use Rattle.gq_rules_typing.specs.StatementViews.{is_v2, view_definition, view_parameter, view_query, view_stmts}
use Rattle.gq_scope.specs.Held.{sorts_in}
use Rattle.gq_plan_stmt.specs.Steps.{resolved_stmts}
use Rattle.gq_plan_expr.specs.Found.{TupleTypes, globals_of}
use Rattle.gq_plan_expr.specs.Names.{globals_in}
use Rattle.gq_plan_laws.specs.Planned.{DefinitionsPlanned}
use Rattle.gq_plan_laws.specs.PlannedLaws.{ParametersPlanned}
use Rattle.gq_plan.specs.Heading.{heads_of}
use Rattle.gq_plan_expr.specs.declared.fault.PlanFault.TheVariants as fault
use Rattle.gq_plan.specs.Unplanned.{NoParameters, NoDefinitions, NotTyped}
use Rattle.gq_plan.proofs.PrintLaws.{plan_made, lacks_parameters, lacks_definitions, lacks_statements}
use Rattle.gq_plan.proofs.plans.planned.Goals as goal

pub returns-clause-planned : goal.returns-clause-planned
unfolding globals_in
returns-clause-planned c =
    plan_made c.args.scope.now c.definitions.new.scope (view_query c.args.query.now) _ c.parameters.new.places c.plan_steps.new.places c.new-tuples.result c.definitions.new.tuples c.new-slots.result c.definitions.new.slots
    c.new-tuples.ensures c.new-slots.ensures c.in_ok-definitions.ensures.scoped
    (c.allows_paths.ensures ∙ ap (list_any is_v2) c.as_slice-4.ensures)
    (subst (λ (ps : List ParameterTree). ParametersPlanned (sorts_in c.args.scope.now) (map view_parameter ps) c.in_ok-parameters.parameters c.parameters.new.places) c.as_slice.ensures c.in_ok-parameters.ensures.planned)
    (subst (λ (ds : List DefinitionTree). DefinitionsPlanned (sorts_in c.args.scope.now) c.parameters.new.places (heads_of c.new-tuples.result c.new-slots.result) (map view_definition ds) c.in_ok-definitions.definitions (heads_of c.definitions.new.tuples c.definitions.new.slots)) c.as_slice-trees.ensures c.in_ok-definitions.ensures.planned)
    (subst (λ (ts : TupleTypes). resolved_stmts (globals_of (sorts_in c.definitions.new.scope) ts c.definitions.new.slots) c.parameters.new.places (view_stmts c.args.query.now.body.statements) ≡ Some (c.plan_steps.new.places, c.in_ok-steps.steps)) c.as_slice-2.ensures
    (subst (λ (ss : List Stmt). resolved_stmts (globals_of (sorts_in c.definitions.new.scope) c.as_slice-2.result.now c.definitions.new.slots) c.parameters.new.places (view_stmts ss) ≡ Some (c.plan_steps.new.places, c.in_ok-steps.steps)) c.as_slice-3.ensures c.in_ok-steps.ensures))
    (c.in_ok-vertices.ensures ∙ c.own_vertices.ensures) (c.in_ok-edges.ensures ∙ c.own_edges.ensures)

pub returns-in_err-parameters-clause-unknown : goal.returns-in_err-parameters-clause-unknown
returns-in_err-parameters-clause-unknown c =
    let never : c.in_err-parameters.field-0.0 ≢ fault.OutOfMemory → NotTyped (sorts_in c.args.scope.now) (view_query c.args.query.now) =
    λ other. lacks_parameters (sorts_in c.args.scope.now) (view_query c.args.query.now)
    (subst (λ (ps : List ParameterTree). NoParameters (sorts_in c.args.scope.now) (map view_parameter ps)) c.as_slice.ensures (c.in_err-parameters.ensures.unknown other)) in
    search (rules, never)

pub returns-in_err-definitions-clause-unknown : goal.returns-in_err-definitions-clause-unknown
returns-in_err-definitions-clause-unknown c =
    let never : c.in_err-definitions.field-0.0 ≢ fault.OutOfMemory → NotTyped (sorts_in c.args.scope.now) (view_query c.args.query.now) =
    λ other. lacks_definitions c.args.scope.now (view_query c.args.query.now) c.in_ok-parameters.parameters c.parameters.new.places c.new-tuples.result c.new-slots.result c.new-tuples.ensures c.new-slots.ensures
    (subst (λ (ps : List ParameterTree). ParametersPlanned (sorts_in c.args.scope.now) (map view_parameter ps) c.in_ok-parameters.parameters c.parameters.new.places) c.as_slice.ensures c.in_ok-parameters.ensures.planned)
    (subst (λ (ds : List DefinitionTree). NoDefinitions (sorts_in c.args.scope.now) c.parameters.new.places (heads_of c.new-tuples.result c.new-slots.result) (map view_definition ds)) c.as_slice-trees.ensures (c.in_err-definitions.ensures.unknown other)) in
    search (rules, never)

pub returns-in_err-steps-clause-unknown : goal.returns-in_err-steps-clause-unknown
unfolding globals_in
returns-in_err-steps-clause-unknown c =
    let never : c.in_err-steps.field-0.0 ≢ fault.OutOfMemory → NotTyped (sorts_in c.args.scope.now) (view_query c.args.query.now) =
    λ other. lacks_statements c.args.scope.now c.definitions.new.scope (view_query c.args.query.now) c.in_ok-parameters.parameters c.parameters.new.places c.in_ok-definitions.definitions c.new-tuples.result c.definitions.new.tuples c.new-slots.result c.definitions.new.slots
    c.new-tuples.ensures c.new-slots.ensures c.in_ok-definitions.ensures.scoped
    (subst (λ (ps : List ParameterTree). ParametersPlanned (sorts_in c.args.scope.now) (map view_parameter ps) c.in_ok-parameters.parameters c.parameters.new.places) c.as_slice.ensures c.in_ok-parameters.ensures.planned)
    (subst (λ (ds : List DefinitionTree). DefinitionsPlanned (sorts_in c.args.scope.now) c.parameters.new.places (heads_of c.new-tuples.result c.new-slots.result) (map view_definition ds) c.in_ok-definitions.definitions (heads_of c.definitions.new.tuples c.definitions.new.slots)) c.as_slice-trees.ensures c.in_ok-definitions.ensures.planned)
    (subst (λ (ts : TupleTypes). resolved_stmts (globals_of (sorts_in c.definitions.new.scope) ts c.definitions.new.slots) c.parameters.new.places (view_stmts c.args.query.now.body.statements) ≡ None) c.as_slice-2.ensures
    (subst (λ (ss : List Stmt). resolved_stmts (globals_of (sorts_in c.definitions.new.scope) c.as_slice-2.result.now c.definitions.new.slots) c.parameters.new.places (view_stmts ss) ≡ None) c.as_slice-3.ensures (c.in_err-steps.ensures other))) in
    search (rules, never)
