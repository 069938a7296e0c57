use Rattle.std.proofs.Common.{◌≡◌, map, take}
use Rattle.gq_json.specs.declared.out.Printed.{Printed}
use Rattle.gq_load_run.specs.Reports.{report_members}
use Rattle.gq_load_run.proofs.lines.report_line.Given as goal

abbrev pub invariant-loop-report : goal.invariant-loop-report
invariant-loop-report l = map (λ (object : Printed). object.members) l.printed.items ≡ map report_members (take l.report-index l.reports)
