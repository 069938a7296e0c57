-- Reports: the counts of a file's records: loaded, short, unreadable.
use Rattle.std.specs.Prelude.{Bool, true, false, List, length, count_by}
use Rattle.gq_load.specs.Records.{Judged, Short, Unreadable, Loaded}
use Rattle.gq_load.specs.declared.report.Report.{Report}

abbrev pub was_short : Judged → Bool
was_short Short = true
was_short Unreadable = false
was_short (Loaded steps) = false

abbrev pub was_unreadable : Judged → Bool
was_unreadable Short = false
was_unreadable Unreadable = true
was_unreadable (Loaded steps) = false

abbrev pub was_loaded : Judged → Bool
was_loaded Short = false
was_loaded Unreadable = false
was_loaded (Loaded steps) = true

-- the number of records, and how many were judged in each way
abbrev pub report_of : List Judged → Report
report_of records = record {
  lines = length records;
  loaded = count_by was_loaded records;
  short = count_by was_short records;
  unreadable = count_by was_unreadable records;
}
