use Rattle.std.proofs.Common.{subst, sym}
use Rattle.gq_rules_meaning.specs.States as states
use Rattle.gq_plan_ir.specs.ExprView.{field_of}
use Rattle.gq_plan_ir.specs.declared.expr.Field.{Field}
use Rattle.gq_eval_attributes.specs.Worlds.{InWorld}
use Rattle.gq_eval_attributes.proofs.EdgeLemmas.{edge_at_place}
use Rattle.gq_eval_attributes.proofs.edges.edge_field.Goals as goal

pub returns-in-Some-edge_row-clause-told : goal.returns-in-Some-edge_row-clause-told
returns-in-Some-edge_row-clause-told c =
    subst (λ (f : Field). InWorld c.args.graph (λ world. states.edge_field world (field_of f) c.args.edge c.args.kind) c.attribute.result) (sym c.in-Named.is)
    (edge_at_place c.args.graph c.in-Named.places c.args.edge c.args.kind c.in-Some.of.now c.in-Some-edge_row.row.now c.place_of_field-place.result c.attribute.result c.in-Some.ensures c.in-Some-edge_row.ensures c.place_of_field-place.ensures c.attribute.ensures.told)
