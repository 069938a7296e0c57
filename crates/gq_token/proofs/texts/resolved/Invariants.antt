use Rattle.std.proofs.Common.{◌-◌, length}
use Rattle.gq_token.proofs.TextLemmas.{IsReadTo}
use Rattle.gq_token.proofs.texts.resolved.Given as goal

abbrev pub invariant-loop-next : goal.invariant-loop-next
invariant-loop-next l = IsReadTo l.body l.next l.bytes.items

abbrev pub decreases-loop-next : goal.decreases-loop-next
decreases-loop-next l = length l.body - l.next
