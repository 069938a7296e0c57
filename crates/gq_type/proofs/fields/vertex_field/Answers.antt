use Rattle.std.proofs.Common.{◌≡◌, ◌≤◌, ◌∙◌, ap, sym, length, List, Some, arith}
use Rattle.std.specs.List.{slice_get}
use Rattle.gq_graph.specs.Catalog.{Schema}
use Rattle.gq_graph.specs.declared.types.VertexType.{VertexType}
use Rattle.gq_graph.specs.declared.types.Attribute.{Attribute}
use Rattle.gq_rules_typing.specs.Sorts.{attribute_fields, with_id}
use Rattle.gq_rules_typing.specs.Words.{OfVertexType}
use Rattle.gq_scope.specs.Parts.{first_named}
use Rattle.gq_type.proofs.FieldLemmas.{vertex_field_is, no_vertex_field}
use Rattle.gq_type.proofs.fields.vertex_field.Goals as goal

pub returns-then-t-count : goal.returns-then-t-count
returns-then-t-count c =
    let count = ap (λ (s : Schema). length s.vertex_types) c.catalog-catalog.ensures in
    no_vertex_field c.args.scope.now (OfVertexType c.args.t) c.args.t c.args.name.now
    (omega (arith, count, c.if-t-count.true, c.type_count.ensures.count, ap length c.edge_types.ensures.types))

pub returns : goal.returns
returns c =
    let at : slice_get c.args.scope.now.schema.vertex_types c.args.t ≡ Some c.vertex_at-vertex.result.now =
    ap (λ (s : Schema). slice_get s.vertex_types c.args.t) (sym c.catalog-catalog.ensures) ∙ c.vertex_at-vertex.ensures
    in
    c.vertex_type_field.ensures ∙ ap (λ (l : List Attribute). first_named (with_id c.vertex_at-vertex.result.now.id (attribute_fields l)) c.args.name.now) c.as_slice.ensures
    ∙ vertex_field_is c.args.scope.now (OfVertexType c.args.t) c.args.t c.args.name.now c.vertex_at-vertex.result.now at
