use Rattle.std.proofs.Common.{◌≡◌, drop}
use Rattle.gq_plan_expr.specs.Names.{globals_in}
use Rattle.gq_plan_expr.proofs.ListLemmas.{after}
use Rattle.gq_plan_select.specs.Resolved.{each_resolved}
use Rattle.gq_plan_expr.specs.Globals.{known_in}
use Rattle.gq_plan_stmt.specs.Parts.{resolved_item, view_items}
use Rattle.gq_plan_stmt.proofs.items.items.Given as goal

abbrev pub invariant-loop-tree : goal.invariant-loop-tree
invariant-loop-tree l =
    each_resolved (resolved_item (known_in (globals_in l.globals) l.places)) (view_items l.trees)
    ≡ after l.planned (each_resolved (resolved_item (known_in (globals_in l.globals) l.places)) (view_items (drop l.tree-index l.trees)))
