use Rattle.std.proofs.Common.{◌≡◌, length}
use Rattle.gq_load_csv.specs.Fields.{TellsTimes}
use Rattle.gq_load.specs.Rows.{values_of}
use Rattle.gq_load.proofs.RowLemmas.{Reading, before, rest_of}
use Rattle.gq_load.proofs.value.read_values.Given as goal

abbrev pub invariant-loop-place : goal.invariant-loop-place
invariant-loop-place l = record {
  values : (read : Reading) → TellsTimes read → values_of read l.keys l.attributes l.sources l.row ≡ before l.values (rest_of read l.keys l.attributes l.sources l.row l.place);
  sized : length l.values ≡ l.place;
}
