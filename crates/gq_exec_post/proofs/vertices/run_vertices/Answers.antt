use Rattle.std.proofs.Common.{refl}
use Rattle.gq_rules_calendar.specs.Gregorian.{gregorian}
use Rattle.gq_plan_ir.specs.BlockView.{view_acts}
use Rattle.gq_exec_post.proofs.VertexLemmas.{vertex_next, vertex_stops}
use Rattle.gq_exec_post.proofs.vertices.run_vertices.Goals as goal

pub returns-in-Err-clause-told : goal.returns-in-Err-clause-told
returns-in-Err-clause-told c =
    vertex_stops gregorian c.args.over.now c.args.end.now (view_acts c.args.acts.now) c.args.vertices.now c.loop-vertex.vertex-index _ c.args.writing.now c.loop-vertex.writing c.in-Err.fault c.loop-vertex.invariant c.loop-vertex-test.true refl c.in-Err.ensures.told

pub loop-vertex-preserved : goal.loop-vertex-preserved
loop-vertex-preserved c =
    vertex_next gregorian c.args.over.now c.args.end.now (view_acts c.args.acts.now) c.args.vertices.now c.loop-vertex.vertex-index _ c.args.writing.now c.loop-vertex.writing c.run_vertex.new.writing c.loop-vertex.invariant c.loop-vertex-test.true refl c.in-Ok.ensures.told c.in-Ok.ensures.sound c.in-Ok.ensures.taken
