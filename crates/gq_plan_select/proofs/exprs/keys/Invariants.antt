use Rattle.std.proofs.Common.{◌≡◌, drop}
use Rattle.gq_plan_expr.specs.Names.{known_of}
use Rattle.gq_plan_expr.proofs.ListLemmas.{after}
use Rattle.gq_plan_select.specs.Resolved.{each_resolved, resolved_key, view_keys}
use Rattle.gq_plan_select.proofs.exprs.keys.Given as goal

abbrev pub invariant-loop-key : goal.invariant-loop-key
invariant-loop-key l = each_resolved (resolved_key (known_of l.names)) (view_keys l.keys) ≡ after l.planned (each_resolved (resolved_key (known_of l.names)) (view_keys (drop l.key-index l.keys)))
