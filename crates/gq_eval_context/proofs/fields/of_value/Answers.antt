use Rattle.std.proofs.Common.{◌∙◌, ap, subst, List, map}
use Rattle.gq_value.specs.declared.value.Value.{Value}
use Rattle.gq_value.specs.Views.{val}
use Rattle.gq_value.specs.ViewLaws.{val-Vertex, val-Tuple}
use Rattle.gq_plan_ir.specs.ExprView.{field_of}
use Rattle.gq_eval_operand.specs.Meant.{meant, sort_is, valued, Tells}
use Rattle.gq_eval_context.specs.FieldReads.{tuple_read}
use Rattle.gq_eval_context.proofs.FieldLemmas.{vertex_reads, tuple_reads}
use Rattle.gq_eval_context.proofs.fields.of_value.Goals as goal

pub returns-in-Vertex-clause-seen : goal.returns-in-Vertex-clause-seen
returns-in-Vertex-clause-seen c =
    vertex_reads c.args.graph c.args.tuples.now (sort_is c.args.sort) (valued c.args.operand) c.in-Vertex.vertex c.args.field.now c.vertex_field.result
    (ap valued c.in-Lent.is ∙ ap val c.in-Vertex.is ∙ val-Vertex c.in-Vertex.vertex) c.vertex_field.ensures.told

pub returns-in-Tuple-clause-seen : goal.returns-in-Tuple-clause-seen
returns-in-Tuple-clause-seen c =
    tuple_reads c.args.graph c.args.tuples.now (sort_is c.args.sort) (valued c.args.operand) c.in-Tuple.row c.args.field.now c.of_tuple.result
    (ap valued c.in-Lent.is ∙ ap val c.in-Tuple.is ∙ val-Tuple c.in-Tuple.row)
    (subst (λ (row : List Value). Tells meant (tuple_read c.args.tuples.now (sort_is c.args.sort) (map val row) (field_of c.args.field.now)) c.of_tuple.result) c.as_slice.ensures c.of_tuple.ensures.seen)

pub returns-in-Vertex-value-clause-seen : goal.returns-in-Vertex-value-clause-seen
returns-in-Vertex-value-clause-seen c =
    vertex_reads c.args.graph c.args.tuples.now (sort_is c.args.sort) (valued c.args.operand) c.in-Vertex-value.vertex c.args.field.now c.vertex_field-in-Vertex-value.result
    (ap valued c.in-Made.is ∙ ap val c.in-Vertex-value.is ∙ val-Vertex c.in-Vertex-value.vertex) c.vertex_field-in-Vertex-value.ensures.told

pub returns-in-Tuple-value-clause-seen : goal.returns-in-Tuple-value-clause-seen
returns-in-Tuple-value-clause-seen c =
    tuple_reads c.args.graph c.args.tuples.now (sort_is c.args.sort) (valued c.args.operand) c.in-Tuple-value.row c.args.field.now c.of_made.result
    (ap valued c.in-Made.is ∙ ap val c.in-Tuple-value.is ∙ val-Tuple c.in-Tuple-value.row) c.of_made.ensures.seen
