use Rattle.std.proofs.Common.{◌≡◌, drop}
use Rattle.gq_tree.specs.View.{views}
use Rattle.gq_plan_expr.specs.Names.{known_of}
use Rattle.gq_plan_expr.specs.Resolved.{resolved_all}
use Rattle.gq_plan_expr.proofs.ListLemmas.{after}
use Rattle.gq_plan_select.proofs.exprs.exprs.Given as goal

abbrev pub invariant-loop-node : goal.invariant-loop-node
invariant-loop-node l = resolved_all (known_of l.names) (views l.nodes) ≡ after l.planned (resolved_all (known_of l.names) (views (drop l.node-index l.nodes)))
