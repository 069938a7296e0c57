use Rattle.std.proofs.Common.{◌-◌, length}
use Rattle.gq_token.specs.Texts.{closes}
use Rattle.gq_token.proofs.EndLemmas.{NotYet}
use Rattle.gq_token.proofs.texts.body_size.Given as goal

abbrev pub invariant-loop-at : goal.invariant-loop-at
invariant-loop-at l = NotYet closes l.behind l.at

abbrev pub decreases-loop-at : goal.decreases-loop-at
decreases-loop-at l = length l.behind - l.at
