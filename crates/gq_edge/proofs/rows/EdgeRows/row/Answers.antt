use Rattle.std.proofs.Common.{◌<◌, ◌∙◌, length, arith}
use Rattle.std.proofs.lemmas.List.{get_or_read}
use Rattle.gq_graph.specs.Edges.{edge_at, no_edge}
use Rattle.gq_edge.proofs.JoinLemmas.{view_long, view_at, built}
use Rattle.gq_edge.proofs.rows.EdgeRows.row.Goals as goal

pub index-ends-requires : goal.index-ends-requires
index-ends-requires c =
    omega (arith, c.requires, c.self.inside.ends.ok.0, view_long c.self.inside.ends.items c.self.inside.attributes c.args.self.now c.self.view_is c.self.invariant)

pub at-requires : goal.at-requires
at-requires c =
    omega (arith, c.requires, c.self.invariant, view_long c.self.inside.ends.items c.self.inside.attributes c.args.self.now c.self.view_is c.self.invariant)

pub returns : goal.returns
returns c =
    let ends = c.self.inside.ends.items in
    let low : c.args.number < length ends = omega (arith, c.requires, view_long ends c.self.inside.attributes c.args.self.now c.self.view_is c.self.invariant) in
    built (edge_at ends c.args.number) c.kind.result c.from.result c.to.result c.at.result.now _
    (get_or_read ends c.args.number c.index-ends.result.now low c.index-ends.ensures no_edge) c.kind.ensures c.from.ensures c.to.ensures c.at.ensures
    ∙ view_at ends c.self.inside.attributes c.args.self.now c.args.number c.self.view_is c.self.invariant c.requires
