use Rattle.std.proofs.Common.{◌≡◌, true, take}
use Rattle.std.specs.List.{list_all}
use Rattle.gq_load_csv.specs.Cursors.{is_inner, is_low}
use Rattle.gq_load_csv.proofs.cursor.field_size.Given as goal

abbrev pub invariant-loop-place : goal.invariant-loop-place
invariant-loop-place l = record {
  inner : list_all (is_inner l.separator) (take l.place l.text) ≡ true;
  ascii : l.ascii ≡ true → list_all is_low (take l.place l.text) ≡ true;
}
