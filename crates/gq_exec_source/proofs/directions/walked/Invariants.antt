use Rattle.std.proofs.Common.{◌≡◌, ◌<◌, ◌≤◌, ◌*◌, ℕ, length, take}
use Rattle.std.specs.List.{list_any}
use Rattle.gq_exec_source.specs.Directions.{walks_kind}
use Rattle.gq_exec_source.specs.Marks.{is_marked}
use Rattle.gq_exec_source.proofs.directions.walked.Given as goal

abbrev pub invariant-loop-pair : goal.invariant-loop-pair
invariant-loop-pair l = record {
  room : length l.types < length l.words * 64;
  marks : (k : ℕ) → k ≤ length l.types → is_marked l.words k ≡ list_any (walks_kind l.types l.back k) (take l.pair-index l.step.edges);
}
