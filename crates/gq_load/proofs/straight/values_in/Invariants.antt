use Rattle.std.proofs.Common.{◌≡◌, ◌≤◌, length, take}
use Rattle.gq_load_csv.specs.Fields.{TellsTimes}
use Rattle.gq_load.specs.Rows.{values_of}
use Rattle.gq_load.proofs.RowLemmas.{Reading, before, rest_of}
use Rattle.gq_load.proofs.straight.values_in.Given as goal

abbrev pub invariant-loop-place : goal.invariant-loop-place
invariant-loop-place l = record {
  values : (read : Reading) → TellsTimes read → values_of read l.keys l.attributes l.sources l.fn.line.fields ≡ before (take l.place l.values) (rest_of read l.keys l.attributes l.sources l.fn.line.fields l.place);
  long : l.place ≤ length l.values;
  same : l.line ≡ l.fn.line;
}
