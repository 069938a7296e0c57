use Rattle.std.proofs.Common.{◌≡◌, drop}
use Rattle.gq_rules_typing.specs.Judging.{each_judged}
use Rattle.gq_scope.specs.Held.{scope_in}
use Rattle.gq_check_from.specs.Walks.{passes, edge_known}
use Rattle.gq_check_from.proofs.walks.edges_known.Given as goal

abbrev pub invariant-loop-name : goal.invariant-loop-name
invariant-loop-name l =
    passes (each_judged (edge_known (scope_in l.scope)) l.names) ≡ passes (each_judged (edge_known (scope_in l.scope)) (drop l.name-index l.names))
