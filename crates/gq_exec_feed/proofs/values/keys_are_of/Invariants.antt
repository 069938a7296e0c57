use Rattle.std.proofs.Common.{◌≡◌}
use Rattle.gq_exec_feed.proofs.SuitLemmas.{KeysRest, KeysWhole}
use Rattle.gq_exec_feed.proofs.values.keys_are_of.Given as goal

abbrev pub invariant-loop-place : goal.invariant-loop-place
invariant-loop-place l = KeysRest l.keys l.values l.place ≡ KeysWhole l.keys l.values
