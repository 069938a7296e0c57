use Rattle.std.proofs.Common.{◌≡◌, ℕ, ℤ, List, true, take, drop}
use Rattle.std.specs.Prelude.{Option}
use Rattle.gq_load_csv.specs.Fields.{TellsTimes}
use Rattle.gq_insert.specs.Fits.{row_fits}
use Rattle.gq_insert.specs.Inserts.{row_of}
use Rattle.gq_insert.proofs.RowLemmas.{behind}
use Rattle.gq_insert.proofs.values.row_of.Given as goal

abbrev pub invariant-loop-place : goal.invariant-loop-place
invariant-loop-place l = record {
  fits : row_fits (take l.place l.attributes) l.row ≡ true;
  made : (read : List ℕ → Option ℤ) → TellsTimes read
      → row_of read l.attributes l.values ≡ behind l.row (row_of read (drop l.place l.attributes) (drop l.place l.values));
}
