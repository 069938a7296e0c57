use Rattle.std.proofs.Common.{◌<◌, arith}
use Rattle.gq_edge.specs.Flat.{edge_of}
use Rattle.gq_edge.specs.Keyed.{edge_tag}
use Rattle.gq_edge.proofs.EdgeLemmas.{edge_starts, edge_goes, edge_found, edge_missing, edge_exact}
use Rattle.gq_edge.proofs.find.find_by_key.Goals as goal

pub loop-next-init : goal.loop-next-init
loop-next-init c =
    edge_starts c.args.naming (edge_of c.args.edge) c.args.rows.now c.args.index.now _ c.last-next.result c.requires.findable c.requires.keyed c.last-next.ensures

pub returns-then-key-lt-HASHED : goal.returns-then-key-lt-HASHED
returns-then-key-lt-HASHED c =
    let low : edge_tag c.args.naming (edge_of c.args.edge) < 2147483648 = omega (arith, c.requires.tagged, c.if-key-lt-HASHED.true) in
    edge_exact c.args.naming (edge_of c.args.edge) c.args.rows.now c.args.index.now _ c.last-next.result c.requires.findable c.requires.ends low
    c.requires.keyed c.last-next.ensures

pub loop-next-preserved : goal.loop-next-preserved
loop-next-preserved c =
    edge_goes c.args.naming (edge_of c.args.edge) c.args.rows.now c.args.index.now c.in-Some.number c.loop-next.next c.before-next.result (edge_of c.row.result)
    c.is_edge.result c.requires.findable c.loop-next.invariant c.in-Some.is c.row.ensures c.is_edge.ensures c.if-is_edge.false c.before-next.ensures

pub returns-then-is_edge : goal.returns-then-is_edge
returns-then-is_edge c =
    edge_found c.args.naming (edge_of c.args.edge) c.args.rows.now c.args.index.now c.in-Some.number c.loop-next.next (edge_of c.row.result)
    c.is_edge.result c.requires.findable c.loop-next.invariant c.in-Some.is c.row.ensures c.is_edge.ensures c.if-is_edge.true

pub returns : goal.returns
returns c = edge_missing c.args.naming (edge_of c.args.edge) c.args.rows.now c.args.index.now c.loop-next.next c.loop-next.invariant c.in_default.is
