use Rattle.std.proofs.Common.{map}
use Rattle.gq_value.specs.Views.{val}
use Rattle.gq_accum_laws.specs.After.{fresh_each}
use Rattle.gq_rules_meaning.specs.States as states
use Rattle.gq_plan_ir.specs.ExprView.{field_of}
use Rattle.gq_eval_operand.specs.declared.seen.Seen.TheVariants as seen
use Rattle.gq_eval_operand.specs.Meant.{parts_are, parts_at}
use Rattle.gq_eval_context.proofs.FieldLemmas.{of_seen, in_world, part_reads}
use Rattle.gq_eval_context.proofs.fields.field_seen.Goals as goal

pub returns-in-Value-clause-seen : goal.returns-in-Value-clause-seen
returns-in-Value-clause-seen c =
    of_seen c.args.graph c.args.tuples.now c.args.of (seen.Value c.in-Value.sort c.in-Value.operand) c.args.field.now c.of_value.result c.in-Value.is
    (c.of_value.ensures.seen)

pub returns-in-Member-clause-seen : goal.returns-in-Member-clause-seen
returns-in-Member-clause-seen c =
    of_seen c.args.graph c.args.tuples.now c.args.of (seen.Member c.in-Member.field-0 c.in-Member.field-1 c.in-Member.vertex) c.args.field.now c.vertex_field.result c.in-Member.is
    (in_world c.args.graph c.args.tuples.now (λ world. states.vertex_field world (field_of c.args.field.now) c.in-Member.vertex) c.vertex_field.result c.vertex_field.ensures.told)

pub returns-in-Edge-clause-seen : goal.returns-in-Edge-clause-seen
returns-in-Edge-clause-seen c =
    of_seen c.args.graph c.args.tuples.now c.args.of (seen.Edge c.in-Edge.edge c.in-Edge.kind) c.args.field.now c.edge_field.result c.in-Edge.is
    (in_world c.args.graph c.args.tuples.now (λ world. states.edge_field world (field_of c.args.field.now) c.in-Edge.edge c.in-Edge.kind) c.edge_field.result c.edge_field.ensures.told)

pub returns-in-Row-clause-seen : goal.returns-in-Row-clause-seen
returns-in-Row-clause-seen c =
    of_seen c.args.graph c.args.tuples.now c.args.of (seen.Row c.in-Row.shape c.in-Row.content c.in-Row.row) c.args.field.now c.row_part.result c.in-Row.is
    (part_reads c.args.graph c.args.tuples.now (parts_are c.in-Row.shape.now) (parts_at c.in-Row.shape.now c.in-Row.content.now (map val c.in-Row.row)) c.args.field.now c.row_part.result c.row_part.ensures.told)

pub returns-in-OpeningRow-clause-seen : goal.returns-in-OpeningRow-clause-seen
returns-in-OpeningRow-clause-seen c =
    of_seen c.args.graph c.args.tuples.now c.args.of (seen.OpeningRow c.in-OpeningRow.shape) c.args.field.now c.opening_part.result c.in-OpeningRow.is
    (part_reads c.args.graph c.args.tuples.now (parts_are c.in-OpeningRow.shape.now) (fresh_each (parts_are c.in-OpeningRow.shape.now)) c.args.field.now c.opening_part.result c.opening_part.ensures.told)
