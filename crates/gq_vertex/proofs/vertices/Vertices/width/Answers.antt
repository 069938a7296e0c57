use Rattle.std.proofs.Common.{◌∙◌, ap, length, arith}
use Rattle.gq_graph.specs.declared.rows.VertexRow.{VertexRow}
use Rattle.gq_vertex.proofs.JoinLemmas.{view_long, view_at}
use Rattle.gq_vertex.proofs.vertices.Vertices.width.Goals as goal

pub at-requires : goal.at-requires
at-requires c = omega (arith, c.requires, c.self.invariant.long, view_long c.self.inside.heads.items c.self.inside.attributes c.args.self.now c.self.view_is c.self.invariant.long)

pub returns : goal.returns
returns c =
    ap length c.at.ensures
    ∙ ap (λ (v : VertexRow). length v.attributes) (view_at c.self.inside.heads.items c.self.inside.attributes c.args.self.now c.args.vertex c.self.view_is c.self.invariant.long c.requires)
