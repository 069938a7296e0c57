use Rattle.std.proofs.Common.{◌≢◌, map, rules}
use Rattle.gq_rules_typing.specs.Statements.{Accums}
use Rattle.gq_rules_typing.specs.StatementViews.{view_accum, view_kind}
use Rattle.gq_scope.specs.Held.{sorts_in}
use Rattle.gq_plan_expr.specs.declared.fault.PlanFault.TheVariants as fault
use Rattle.gq_plan.specs.Heading.{heads_of}
use Rattle.gq_plan.specs.Unplanned.{NoDefinition}
use Rattle.gq_plan.proofs.FailLemmas.{accums_lack}
use Rattle.gq_plan.proofs.HeadLemmas.{kind_planned}
use Rattle.gq_plan.proofs.definitions.of_kind.Goals as goal

pub returns-clause-planned : goal.returns-clause-planned
returns-clause-planned c =
    kind_planned c.args.scope.now c.args.places.now (heads_of c.args.tuples.now c.args.slots.now) (heads_of c.args.tuples.now c.accums.new.slots) (view_kind c.args.tree.now) (map view_accum c.args.trees.now) c.in_ok-kind.kind c.in_ok-planned.planned
    c.requires c.in_ok-kind.ensures.planned c.in_ok-planned.ensures.planned

pub returns-in_err-planned-clause-unknown : goal.returns-in_err-planned-clause-unknown
returns-in_err-planned-clause-unknown c =
    let never : c.in_err-planned.field-0.0 ≢ fault.OutOfMemory → NoDefinition (sorts_in c.args.scope.now) c.args.places.now (heads_of c.args.tuples.now c.args.slots.now) (Accums (view_kind c.args.tree.now) (map view_accum c.args.trees.now)) =
    λ other. accums_lack c.args.scope.now c.args.places.now c.args.tuples.now c.args.slots.now (view_kind c.args.tree.now) (map view_accum c.args.trees.now) (c.in_err-planned.ensures.unknown other) in
    search (rules, never)
