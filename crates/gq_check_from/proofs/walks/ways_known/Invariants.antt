use Rattle.std.proofs.Common.{◌≡◌, drop}
use Rattle.gq_rules_typing.specs.Judging.{each_judged}
use Rattle.gq_rules_typing.specs.SelectTypes.{way_known}
use Rattle.gq_scope.specs.Held.{scope_in}
use Rattle.gq_check_from.proofs.StepLemmas.{after}
use Rattle.gq_check_from.proofs.walks.ways_known.Given as goal

abbrev pub invariant-loop-way : goal.invariant-loop-way
invariant-loop-way l =
    each_judged (way_known (scope_in l.scope)) l.ways ≡ after l.types (each_judged (way_known (scope_in l.scope)) (drop l.way-index l.ways))
