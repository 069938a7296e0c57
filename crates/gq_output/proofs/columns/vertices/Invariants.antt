use Rattle.gq_rules_calendar.specs.Gregorian.{gregorian}
use Rattle.gq_output.proofs.ColumnLemmas.{VerticesFrom}
use Rattle.gq_output.proofs.columns.vertices.Given as goal

-- the vertices so far, followed by the rest
abbrev pub invariant-loop-vertex : goal.invariant-loop-vertex
invariant-loop-vertex l = VerticesFrom gregorian l.over l.columns l.place l.types l.set l.vertex-index l.outs
