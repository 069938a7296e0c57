use Rattle.std.proofs.Common.{All, ◌≤◌, ◌-◌, length}
use Rattle.gq_token.specs.Cut.{IsSpelledIn}
use Rattle.gq_token.proofs.CutLemmas.{CutBefore}
use Rattle.gq_token.proofs.cut.tokens.Given as goal

abbrev pub invariant-loop-at : goal.invariant-loop-at
invariant-loop-at l = record {
  within : l.at ≤ length l.bytes;
  before : CutBefore l.bytes l.at l.found.items;
  spelled : All (IsSpelledIn l.bytes) l.found.items;
}

abbrev pub decreases-loop-at : goal.decreases-loop-at
decreases-loop-at l = length l.bytes - l.at
