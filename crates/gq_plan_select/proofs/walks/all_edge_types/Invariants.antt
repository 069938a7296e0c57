use Rattle.std.proofs.Common.{◌≡◌, drop}
use Rattle.gq_plan_expr.specs.Names.{sees_of}
use Rattle.gq_plan_expr.proofs.ListLemmas.{after}
use Rattle.gq_plan_select.specs.Resolved.{each_resolved}
use Rattle.gq_plan_select.proofs.walks.all_edge_types.Given as goal

abbrev pub invariant-loop-name : goal.invariant-loop-name
invariant-loop-name l = each_resolved (sees_of l.names).edge_type l.listed ≡ after l.planned (each_resolved (sees_of l.names).edge_type (drop l.name-index l.listed))
