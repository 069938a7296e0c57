use Rattle.std.proofs.Common.{◌≡◌, drop}
use Rattle.gq_plan_expr.specs.Names.{known_of}
use Rattle.gq_plan_expr.proofs.ListLemmas.{after}
use Rattle.gq_plan_select.specs.Resolved.{resolved_inputs, view_inputs}
use Rattle.gq_plan_select.proofs.inputs.+inputs.Given as goal

abbrev pub invariant-inputs-loop-tree : goal.invariant-inputs-loop-tree
invariant-inputs-loop-tree l = resolved_inputs (known_of l.names) (view_inputs l.trees) ≡ after l.planned (resolved_inputs (known_of l.names) (view_inputs (drop l.tree-index l.trees)))
