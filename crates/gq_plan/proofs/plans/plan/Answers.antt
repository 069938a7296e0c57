use Rattle.gq_rules_typing.specs.StatementViews.{view_query}
use Rattle.gq_plan.proofs.PrintLaws.{scope_new, prints_new, safe_new}
use Rattle.gq_plan.proofs.plans.plan.Goals as goal

pub planned-requires : goal.planned-requires
planned-requires c = scope_new c.new-scope.result c.args.catalog.now c.args.graph c.new-scope.ensures

pub returns-clause-prints : goal.returns-clause-prints
returns-clause-prints c = prints_new c.new-scope.result c.args.catalog.now c.args.graph (view_query c.args.query.now) _ c.new-scope.ensures c.in_ok-plan.ensures.planned

pub returns-clause-safe : goal.returns-clause-safe
returns-clause-safe c = safe_new c.new-scope.result c.args.catalog.now c.args.graph (view_query c.args.query.now) _ c.new-scope.ensures c.in_ok-plan.ensures.planned
