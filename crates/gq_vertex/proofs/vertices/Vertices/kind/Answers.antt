use Rattle.std.proofs.Common.{◌<◌, ◌∙◌, ap, length, arith}
use Rattle.std.proofs.lemmas.List.{get_or_read}
use Rattle.gq_graph.specs.declared.rows.VertexRow.{VertexRow}
use Rattle.gq_graph.specs.Vertices.{no_vertex}
use Rattle.gq_vertex.proofs.JoinLemmas.{view_long, view_at}
use Rattle.gq_vertex.proofs.vertices.Vertices.kind.Goals as goal

pub index-requires : goal.index-requires
index-requires c = omega (arith, c.requires, c.self.inside.heads.ok.0, c.self.invariant.long, view_long c.self.inside.heads.items c.self.inside.attributes c.args.self.now c.self.view_is c.self.invariant.long)

pub returns : goal.returns
returns c =
    let low : c.args.vertex < length c.self.inside.heads.items = omega (arith, c.requires, c.self.inside.heads.ok.0, c.self.invariant.long, view_long c.self.inside.heads.items c.self.inside.attributes c.args.self.now c.self.view_is c.self.invariant.long) in
    c.kind.ensures ∙ ap (λ (v : VertexRow). v.kind) (get_or_read c.self.inside.heads.items c.args.vertex c.index.result.now low c.index.ensures no_vertex)
    ∙ ap (λ (v : VertexRow). v.kind) (view_at c.self.inside.heads.items c.self.inside.attributes c.args.self.now c.args.vertex c.self.view_is c.self.invariant.long c.requires)
