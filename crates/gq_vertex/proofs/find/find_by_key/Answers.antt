use Rattle.std.proofs.Common.{◌<◌, arith}
use Rattle.gq_vertex.specs.Keyed.{word}
use Rattle.gq_vertex.proofs.VertexLemmas.{vertex_starts, vertex_goes, vertex_found, vertex_missing, vertex_exact}
use Rattle.gq_vertex.proofs.find.find_by_key.Goals as goal

pub loop-next-init : goal.loop-next-init
loop-next-init c =
    vertex_starts c.args.rows.now c.args.keys.now c.args.kind c.args.id.now _ c.last-next.result c.requires c.vertex_key-key.ensures.number c.last-next.ensures

pub returns-then-is_exact : goal.returns-then-is_exact
returns-then-is_exact c =
    let low : word c.args.id.now < 9223372036854775808 = omega (arith, c.vertex_key-key.ensures.word, c.is_exact.ensures.0 c.if-is_exact.true) in
    vertex_exact c.args.rows.now c.args.keys.now c.args.kind c.args.id.now _ c.last-next.result c.requires c.vertex_key-key.ensures.bytes low
    c.vertex_key-key.ensures.number c.last-next.ensures

pub loop-next-preserved : goal.loop-next-preserved
loop-next-preserved c =
    vertex_goes c.args.rows.now c.args.keys.now c.args.kind c.in-Some.number c.args.id.now c.loop-next.next c.before-next.result c.index-rows-number.result
    c.is_vertex.result c.requires c.loop-next.invariant c.in-Some.is c.index-rows-number.is c.is_vertex.ensures c.if-is_vertex.false c.before-next.ensures

pub returns-then-is_vertex : goal.returns-then-is_vertex
returns-then-is_vertex c =
    vertex_found c.args.rows.now c.args.keys.now c.args.kind c.in-Some.number c.args.id.now c.loop-next.next c.index-rows-number.result
    c.is_vertex.result c.requires c.loop-next.invariant c.in-Some.is c.index-rows-number.is c.is_vertex.ensures c.if-is_vertex.true

pub returns : goal.returns
returns c = vertex_missing c.args.rows.now c.args.keys.now c.args.kind c.args.id.now c.loop-next.next c.loop-next.invariant c.in_default.is
