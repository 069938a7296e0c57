use Rattle.gq_after.proofs.BeforeLemmas.{KeysTo}
use Rattle.gq_after.proofs.before.keys_have.Given as goal

abbrev pub invariant-loop-key : goal.invariant-loop-key
invariant-loop-key l = KeysTo l.order l.key-index
