use Rattle.std.proofs.Common.{◌<◌, length, refl, arith}
use Rattle.gq_rules_calendar.specs.Gregorian.{gregorian}
use Rattle.gq_output.proofs.ColumnLemmas.{vertex_put}
use Rattle.gq_output.proofs.columns.vertices.Goals as goal

pub loop-vertex-preserved : goal.loop-vertex-preserved
loop-vertex-preserved c =
    let n : c.loop-vertex.vertex-index < length c.args.set.now = omega arith in
    vertex_put gregorian c.args.over.now c.args.columns.now c.args.place c.args.types.now c.args.set.now c.loop-vertex.vertex-index _ c.loop-vertex.outs c.push.new.self c.in-Ok.out c.loop-vertex.invariant n refl c.in-Ok.ensures c.in_ok-push-in-Ok.ensures.ok
