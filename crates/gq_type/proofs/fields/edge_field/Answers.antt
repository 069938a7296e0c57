use Rattle.std.proofs.Common.{◌≡◌, ◌≤◌, ◌∙◌, ap, sym, length, get_or, List, Some, arith}
use Rattle.std.specs.List.{slice_get}
use Rattle.std.proofs.lemmas.Option.{slice_get-get_or}
use Rattle.gq_graph.specs.declared.types.EdgeType.{EdgeType}
use Rattle.gq_graph.specs.declared.types.Attribute.{Attribute}
use Rattle.gq_rules_typing.specs.Sorts.{attribute_fields}
use Rattle.gq_rules_typing.specs.Words.{OfEdgeType}
use Rattle.gq_scope.specs.Parts.{first_named}
use Rattle.gq_type.proofs.FieldLemmas.{edge_field_is, no_edge_field}
use Rattle.gq_type.proofs.fields.edge_field.Goals as goal

pub returns-then-t-types : goal.returns-then-t-types
returns-then-t-types c =
    let types : c.edge_types-types.result.now ≡ c.args.scope.now.schema.edge_types = c.edge_types-types.ensures.types ∙ ap (λ s. s.edge_types) c.catalog.ensures in
    no_edge_field c.args.scope.now (OfEdgeType c.args.t) c.args.t c.args.name.now (omega (arith, ap length types, c.if-t-types.true))

pub returns : goal.returns
returns c =
    let types : c.edge_types-types.result.now ≡ c.args.scope.now.schema.edge_types = c.edge_types-types.ensures.types ∙ ap (λ s. s.edge_types) c.catalog.ensures in
    let e = get_or c.edge_types-types.result.now c.args.t c.index-types-t.result in
    let at : slice_get c.args.scope.now.schema.edge_types c.args.t ≡ Some e =
    ap (λ (l : List EdgeType). slice_get l c.args.t) (sym types) ∙ slice_get-get_or c.edge_types-types.result.now c.args.t c.index-types-t.result c.if-t-types.false
    in
    c.attribute_type.ensures ∙ ap (λ (l : List Attribute). first_named (attribute_fields l) c.args.name.now) c.as_slice.ensures
    ∙ edge_field_is c.args.scope.now (OfEdgeType c.args.t) c.args.t c.args.name.now e at
