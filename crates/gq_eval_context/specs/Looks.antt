-- Looks: the meaning of an `EvalContext`, in terms of the definitions.
use Rattle.std.specs.Prelude.{List, [], Some}
use Rattle.gq_graph.specs.Catalog.{Schema}
use Rattle.gq_graph.specs.Edges.{EdgeTable}
use Rattle.gq_graph.specs.declared.rows.VertexRow.{VertexRow}
use Rattle.gq_rules_meaning.specs.Calendars.{Calendar}
use Rattle.gq_rules_meaning.specs.Graphs.{Graph, graph_of}
use Rattle.gq_rules_meaning.specs.Expressions.{World, Look}
use Rattle.gq_rules_meaning.specs.States.{read_slot, field_of}
use Rattle.gq_plan_ir.specs.declared.plan.Plan.{Plan}
use Rattle.gq_plan_ir.specs.Belonging.{world_of}
use Rattle.gq_plan_ir.specs.PlanView.{accum_names}
use Rattle.gq_plan_ir.specs.Reference.{Reference}
use Rattle.gq_eval_attributes.specs.Tuples.{tuples_are}
use Rattle.gq_frame.specs.Names.{thing_at, named_in}
use Rattle.gq_frame.specs.Slots.{slots_are}
use Rattle.gq_eval_context.specs.Viewed.{Viewed, Over}

-- the graph that a plan was made for, of a catalog and a store
abbrev pub graph_for : Schema → List VertexRow → EdgeTable → Plan → Graph
graph_for schema vertices edges plan = graph_of schema (Some (record { name = []; vertices = plan.vertices; edges = plan.edges })) vertices edges.rows

-- all that stays the same while a query runs, of a block and of an expression
abbrev pub world_over : Calendar → Over → World Reference
world_over clock s = world_of (accum_names s.plan) (tuples_are s.tuples) (graph_for s.schema s.vertices s.edges s.plan) clock

abbrev pub world_in : Calendar → Viewed → World Reference
world_in clock v = world_of (accum_names v.plan) (tuples_are v.tuples) (graph_for v.schema v.vertices v.edges v.plan) clock

abbrev pub look_of : Calendar → Viewed → Look Reference
look_of clock v = record {
  named = named_in (thing_at v.aliases v.things);
  global = λ a. read_slot (world_in clock v) (slots_are v.accums) a 0;
  attached = λ a x. read_slot (world_in clock v) (slots_are v.accums) a x;
  before = λ a x. read_slot (world_in clock v) (slots_are v.before) a x;
  field = field_of (world_in clock v);
  world = world_in clock v;
}
