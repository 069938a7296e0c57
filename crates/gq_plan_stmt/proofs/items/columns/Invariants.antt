use Rattle.std.proofs.Common.{◌≡◌, drop}
use Rattle.gq_plan_expr.specs.Names.{globals_in}
use Rattle.gq_plan_expr.proofs.ListLemmas.{after}
use Rattle.gq_plan_select.specs.Resolved.{each_resolved}
use Rattle.gq_plan_expr.specs.Globals.{known_in}
use Rattle.gq_plan_stmt.specs.Parts.{resolved_keyed, view_columns}
use Rattle.gq_plan_stmt.proofs.items.columns.Given as goal

abbrev pub invariant-loop-tree : goal.invariant-loop-tree
invariant-loop-tree l =
    each_resolved (resolved_keyed (known_in (globals_in l.globals) l.places)) (view_columns l.trees)
    ≡ after l.planned (each_resolved (resolved_keyed (known_in (globals_in l.globals) l.places)) (view_columns (drop l.tree-index l.trees)))
