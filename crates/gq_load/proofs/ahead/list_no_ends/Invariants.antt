use Rattle.std.proofs.Common.{◌≡◌, ◌+◌, length}
use Rattle.gq_load.specs.Found.{KeepsThose}
use Rattle.gq_load.proofs.ahead.list_no_ends.Given as goal

abbrev pub invariant-loop : goal.invariant-loop
invariant-loop l = record {
  long : length l.found ≡ length l.fn.found + l.counter;
  others : KeepsThose l.fn.found l.found;
}
