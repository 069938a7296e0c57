use Rattle.std.proofs.Common.{ℕ, ◌+◌, ◌-◌, ◌<◌, ◌≤◌, ◌^◌, length}
use Rattle.gq_index.specs.Stretches.{stretch_at}
use Rattle.gq_index.proofs.stretches.find.Given as goal

abbrev pub invariant-loop-low : goal.invariant-loop-low
invariant-loop-low l = record {
  order : l.low ≤ l.high;
  inside : l.high ≤ length l.stretches;
  before : 0 < l.low → (stretch_at l.stretches (l.low - 1)).start ≤ l.place;
  behind : l.high < length l.stretches → l.place < (stretch_at l.stretches l.high).start;
  grown : l.fn.steps ≤ l.steps;
  bound : (d : ℕ) → length l.stretches < 2 ^ d → l.steps ≤ l.fn.steps + d;
  halved : (d : ℕ) → length l.stretches < 2 ^ d → l.high - l.low < 2 ^ (l.fn.steps + d - l.steps);
}

abbrev pub decreases-loop-low : goal.decreases-loop-low
decreases-loop-low l = l.high - l.low
