use Rattle.std.proofs.Common.{◌≡◌, ◌<◌, ◌*◌, ◌||◌, ℕ, length, take}
use Rattle.std.specs.List.{list_any}
use Rattle.gq_exec_source.specs.Directions.{leads_from}
use Rattle.gq_exec_source.specs.Marks.{is_marked}
use Rattle.gq_exec_source.proofs.directions.mark_rows.Given as goal

abbrev pub invariant-loop-row : goal.invariant-loop-row
invariant-loop-row l = record {
  len : length l.words ≡ length l.fn.words;
  marks : (v : ℕ) → v < length l.fn.words * 64 → is_marked l.words v ≡ (is_marked l.fn.words v || list_any (λ row. leads_from l.directions l.targets row v) (take l.row-index l.rows));
}
