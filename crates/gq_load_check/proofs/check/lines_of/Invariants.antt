use Rattle.std.proofs.Common.{◌≡◌, ◌++◌, drop}
use Rattle.gq_load_check.specs.Lines.{lines_of}
use Rattle.gq_load_check.specs.Placed.{defining}
use Rattle.gq_load_check.specs.Refusals.{first_due, line_refusal}
use Rattle.gq_load_check.proofs.check.lines_of.Given as goal

abbrev pub invariant-loop-line : goal.invariant-loop-line
invariant-loop-line l = record {
  made : lines_of l.catalog l.graph l.job ≡ l.checked ++ lines_of l.catalog l.graph (drop l.line-index l.job);
  rest : first_due (line_refusal l.catalog l.graph (defining l.files)) l.job
      ≡ first_due (line_refusal l.catalog l.graph (defining l.files)) (drop l.line-index l.job);
}
