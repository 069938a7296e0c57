use Rattle.std.proofs.Common.{◌≡◌, ◌<◌, ◌∙◌, ◌++◌, ◌∷◌, [], ap, length, arith}
use Rattle.gq_graph.specs.declared.rows.VertexRow.{VertexRow}
use Rattle.gq_vertex.specs.Joined.{head_of}
use Rattle.gq_vertex.proofs.VertexLemmas.{named_added}
use Rattle.gq_vertex.proofs.vertices.add.Goals as goal

pub returns-clause-named : goal.returns-clause-named
returns-clause-named c =
    let rows = c.args.rows.now.items in
    let row : VertexRow = head_of c.args.kind c.args.id.now in
    let room : length rows < 4194304 = omega (arith, c.args.rows.now.ok.0) in
    let head_is : c.new-head.result ≡ row = c.new-head.ensures ∙ ap (head_of c.args.kind) c.in_ok-of.ensures in
    let rows_are : c.put.new.rows.items ≡ rows ++ row ∷ [] = c.put.ensures ∙ ap (λ l. l ++ c.new-head.result ∷ []) c.reserve.ensures.items ∙ ap (λ r. rows ++ r ∷ []) head_is in
    let found = rw (c.deref.ensures.value, c.reserve.ensures.items, head_is) at c.in_ok-insert_with.ensures.put in
    rw rows_are (named_added rows c.args.index.now c.insert_with.new.index row c.requires.new room (λ k. (c.type_inv.id k).fits) c.requires.named found)
