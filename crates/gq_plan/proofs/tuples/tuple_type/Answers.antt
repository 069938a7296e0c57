use Rattle.std.proofs.Common.{◌≡◌, ◌≢◌, ◌∙◌, Some, None, subst, rules}
use Rattle.gq_rules_typing.specs.StatementViews.{view_fields}
use Rattle.gq_rules_typing.specs.Statements.{TupleType}
use Rattle.gq_scope.specs.Held.{sorts_in}
use Rattle.gq_scope.specs.Named.{Named}
use Rattle.gq_plan_expr.specs.declared.fault.PlanFault.TheVariants as fault
use Rattle.gq_plan_select.specs.Resolved.{each_resolved}
use Rattle.gq_plan_expr.specs.Found.{TupleTypes, globals_of}
use Rattle.gq_plan_expr.specs.Names.{globals_in}
use Rattle.gq_plan.specs.Heading.{heads_of, resolved_field}
use Rattle.gq_plan.specs.Unplanned.{NoDefinition}
use Rattle.gq_plan.proofs.HeadLemmas.{tuple_planned}
use Rattle.gq_plan.proofs.FailLemmas.{fields_lack}
use Rattle.gq_plan.proofs.tuples.tuple_type.Goals as goal

pub returns-clause-planned : goal.returns-clause-planned
unfolding globals_in
returns-clause-planned c = λ n.
    tuple_planned c.args.scope.now n c.args.tuples.now c.declare.new.tuples c.args.slots.now (view_fields c.args.trees.now) c.args.name.now c.in_ok-planned.planned c.in_ok-fields.fields c.in_ok-number.number
    c.requires (c.in_ok-number.ensures.ok ∙ c.len.ensures)
    (subst (λ (ts : TupleTypes). each_resolved (resolved_field (globals_of (sorts_in c.args.scope.now) ts c.args.slots.now)) (view_fields c.args.trees.now) ≡ Some c.in_ok-planned.planned) c.as_slice.ensures c.in_ok-planned.ensures)
    c.in_ok-fields.ensures.typed c.in_ok-declare.ensures.added

pub returns-in_err-planned-clause-unknown : goal.returns-in_err-planned-clause-unknown
unfolding globals_in
returns-in_err-planned-clause-unknown c =
    let never : c.in_err-planned.field-0.0 ≢ fault.OutOfMemory → (n : Named) → NoDefinition (sorts_in c.args.scope.now) n (heads_of c.args.tuples.now c.args.slots.now) (TupleType (view_fields c.args.trees.now) c.args.name.now) =
    λ other n. fields_lack c.args.scope.now n c.args.tuples.now c.args.slots.now (view_fields c.args.trees.now) c.args.name.now
    (subst (λ (ts : TupleTypes). each_resolved (resolved_field (globals_of (sorts_in c.args.scope.now) ts c.args.slots.now)) (view_fields c.args.trees.now) ≡ None) c.as_slice.ensures (c.in_err-planned.ensures other)) in
    search (rules, never)
