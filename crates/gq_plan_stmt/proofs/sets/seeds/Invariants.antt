use Rattle.std.proofs.Common.{◌≡◌, drop}
use Rattle.gq_plan_expr.specs.Names.{globals_in}
use Rattle.gq_plan_expr.proofs.ListLemmas.{after}
use Rattle.gq_plan_select.specs.Resolved.{each_resolved}
use Rattle.gq_plan_stmt.specs.Parts.{resolved_seed, view_seeds}
use Rattle.gq_plan_stmt.proofs.sets.seeds.Given as goal

abbrev pub invariant-loop-tree : goal.invariant-loop-tree
invariant-loop-tree l =
    each_resolved (resolved_seed (globals_in l.globals) l.places) (view_seeds l.trees)
    ≡ after l.planned (each_resolved (resolved_seed (globals_in l.globals) l.places) (view_seeds (drop l.tree-index l.trees)))
