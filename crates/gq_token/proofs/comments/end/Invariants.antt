use Rattle.std.proofs.Common.{◌-◌, length}
use Rattle.gq_token.specs.Spelling.{ends_at_close}
use Rattle.gq_token.proofs.EndLemmas.{NotYet}
use Rattle.gq_token.proofs.comments.end.Given as goal

abbrev pub invariant-loop-at : goal.invariant-loop-at
invariant-loop-at l = NotYet ends_at_close l.behind l.at

abbrev pub decreases-loop-at : goal.decreases-loop-at
decreases-loop-at l = length l.behind - l.at
