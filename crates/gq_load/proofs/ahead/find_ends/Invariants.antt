use Rattle.std.proofs.Common.{◌≡◌, ◌+◌, length}
use Rattle.gq_load.specs.Found.{KeepsThose}
use Rattle.gq_load.proofs.FoundLemmas.{StandBehind}
use Rattle.gq_load.proofs.ahead.find_ends.Given as goal

abbrev pub invariant-loop-record : goal.invariant-loop-record
invariant-loop-record l = record {
  long : length l.found ≡ length l.fn.found + l.record-index;
  others : KeepsThose l.fn.found l.found;
  ends : StandBehind l.store.vertices l.from l.to l.place l.batch (length l.fn.found) l.found l.record-index;
}
