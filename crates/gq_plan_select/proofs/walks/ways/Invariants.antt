use Rattle.std.proofs.Common.{◌≡◌, drop}
use Rattle.gq_plan_expr.specs.Names.{sees_of}
use Rattle.gq_plan_expr.proofs.ListLemmas.{after}
use Rattle.gq_plan_select.specs.Resolved.{each_resolved, resolved_way}
use Rattle.gq_plan_select.proofs.walks.ways.Given as goal

abbrev pub invariant-loop-way : goal.invariant-loop-way
invariant-loop-way l = each_resolved (resolved_way (sees_of l.names)) l.ways ≡ after l.planned (each_resolved (resolved_way (sees_of l.names)) (drop l.way-index l.ways))
