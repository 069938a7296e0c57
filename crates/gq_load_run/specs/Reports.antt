-- Reports: what a loading job prints, an object for each LOAD.
use Rattle.std.specs.Prelude.{ℕ, List, [], ◌∷◌, map, codes}
use Rattle.gq_json.specs.declared.out.Out.{Out}
use Rattle.gq_json.specs.declared.out.Out.TheVariants.{Text, UInt}
use Rattle.gq_json.specs.Json.{line_text}
use Rattle.gq_load_run.specs.declared.lines.FileReport.{FileReport}

-- the members of the object of a LOAD: its file, and the numbers of records in it, loaded, short and unreadable
abbrev pub report_members : FileReport → List (List ℕ × Out)
report_members report =
    (codes "file", Text report.file)
    ∷ (codes "lines", UInt report.lines)
    ∷ (codes "loaded", UInt report.loaded)
    ∷ (codes "short", UInt report.short)
    ∷ (codes "unreadable", UInt report.unreadable)
    ∷ []

-- the line of a job
abbrev pub report_text : List FileReport → List ℕ
report_text reports = line_text (map report_members reports)
