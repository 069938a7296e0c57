use Rattle.std.proofs.Common.{◌∙◌, ap, List}
use Rattle.gq_graph.specs.declared.rows.VertexRow.{VertexRow}
use Rattle.gq_graph.specs.Vertices.{vertex_number}
use Rattle.gq_vertex.proofs.JoinLemmas.{view_number}
use Rattle.gq_vertex.proofs.vertices.Vertices.find.Goals as goal

pub returns : goal.returns
returns c =
    c.find.ensures ∙ ap (λ (l : List VertexRow). vertex_number l c.args.kind c.args.id.now) c.deref.ensures.value
    ∙ view_number c.self.inside.heads.items c.self.inside.attributes c.args.self.now c.args.kind c.args.id.now c.self.view_is c.self.invariant.long
