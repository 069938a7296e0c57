use Rattle.gq_rules_calendar.specs.Gregorian.{gregorian}
use Rattle.gq_plan_ir.specs.BlockView.{view_acts}
use Rattle.gq_exec_post.proofs.VertexLemmas.{VerticesTo}
use Rattle.gq_exec_post.proofs.vertices.run_vertices.Given as goal

abbrev pub invariant-loop-vertex : goal.invariant-loop-vertex
invariant-loop-vertex l = VerticesTo gregorian l.over l.end (view_acts l.acts) l.vertices l.fn.writing l.vertex-index l.writing
