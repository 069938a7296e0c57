use Rattle.std.proofs.Common.{◌<◌, length, arith}
use Rattle.gq_graph.specs.Vertices.{vertex_at}
use Rattle.gq_rules_calendar.specs.Gregorian.{gregorian}
use Rattle.gq_eval_context.specs.Looks.{world_over}
use Rattle.gq_output.proofs.VertexLemmas.{attribute_next}
use Rattle.gq_output.proofs.attributes.put_attributes.Goals as goal

pub loop-place-preserved : goal.loop-place-preserved
loop-place-preserved c =
    let n : c.loop-place.place < length c.args.attributes.now = omega arith in
    attribute_next (world_over gregorian c.args.over.now) c.args.attributes.now (vertex_at c.args.vertices.now c.args.vertex).attributes _ c.loop-place.members _ c.loop-place.place _ c.value-value.result.now c.loop-place.invariant n
    c.index-attributes-place.is c.value-value.ensures c.in_ok-put_value.ensures
