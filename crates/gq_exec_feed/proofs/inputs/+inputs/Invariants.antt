use Rattle.std.proofs.Common.{◌≡◌, ◌+◌, ◌*◌}
use Rattle.gq_exec_feed.proofs.SuitLemmas.{PartsRest, PartsWhole}
use Rattle.gq_exec_feed.proofs.inputs.+inputs.Given as goal

abbrev pub invariant-parts_suit-loop-place : goal.invariant-parts_suit-loop-place
invariant-parts_suit-loop-place l = PartsRest l.parts l.inputs l.place ≡ PartsWhole l.parts l.inputs

abbrev pub decreases-suits : goal.decreases-suits
decreases-suits l = 8 * goal.size-suits l

abbrev pub decreases-keyed_suits : goal.decreases-keyed_suits
decreases-keyed_suits l = 8 * goal.size-keyed_suits l + 3

abbrev pub decreases-one_suits : goal.decreases-one_suits
decreases-one_suits l = 8 * goal.size-one_suits l + 2

abbrev pub decreases-parts_suit : goal.decreases-parts_suit
decreases-parts_suit l = 8 * goal.size-parts_suit l + 2
