use Rattle.std.proofs.Common.{ℕ, ◌+◌, ◌-◌, ◌<◌, ◌≤◌, ◌^◌, length}
use Rattle.gq_index.specs.Runs.{segment_at}
use Rattle.gq_index.proofs.runs.find.Given as goal

abbrev pub invariant-loop-low : goal.invariant-loop-low
invariant-loop-low l = record {
  order : l.low ≤ l.high;
  inside : l.high ≤ length l.segments;
  before : (k : ℕ) → k < l.low → (segment_at l.segments k).start ≤ l.place;
  after : (k : ℕ) → l.high ≤ k → k < length l.segments → l.place < (segment_at l.segments k).start;
  grown : l.fn.steps ≤ l.steps;
  bound : (d : ℕ) → length l.segments < 2 ^ d → l.steps ≤ l.fn.steps + d;
  halved : (d : ℕ) → length l.segments < 2 ^ d → l.high - l.low < 2 ^ (l.fn.steps + d - l.steps);
}

abbrev pub decreases-loop-low : goal.decreases-loop-low
decreases-loop-low l = l.high - l.low
