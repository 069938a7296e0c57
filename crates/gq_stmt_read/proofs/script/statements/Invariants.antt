use Rattle.std.proofs.Common.{length, ◌-◌, ◌≤◌}
use Rattle.gq_stmt_read.proofs.CutLemmas.{CutBefore}
use Rattle.gq_stmt_read.proofs.script.statements.Given as goal

abbrev pub invariant-loop-at : goal.invariant-loop-at
invariant-loop-at l = record {
  within : l.at ≤ length l.tokens;
  counted : length l.found.items ≤ l.at;
  before : CutBefore l.bytes l.tokens l.found.items l.at;
}

abbrev pub decreases-loop-at : goal.decreases-loop-at
decreases-loop-at l = length l.tokens - l.at
