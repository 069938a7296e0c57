-- Contexts: the read-only context of a run, as a world of the definitions.
use Rattle.std.specs.Prelude.{◌≡◌, ◌≤◌, List, [], length}
use Rattle.gq_graph.specs.Catalog.{Schema, most_types}
use Rattle.gq_graph.specs.Edges.{EdgeTable}
use Rattle.gq_graph.specs.declared.rows.VertexRow.{VertexRow}
use Rattle.gq_index.specs.declared.walks.Traversal.{Traversal}
use Rattle.gq_index.specs.Sights.{sight_of}
use Rattle.gq_index.specs.Walks.{adjacency}
use Rattle.gq_index.specs.Rows.{HaveAttributes, HaveEnds}
use Rattle.gq_rules_meaning.specs.Calendars.{Calendar}
use Rattle.gq_rules_meaning.specs.Expressions.{World, Look}
use Rattle.gq_plan_ir.specs.declared.plan.Plan.{Plan}
use Rattle.gq_plan_ir.specs.Belonging.{world_of}
use Rattle.gq_plan_ir.specs.PlanView.{accum_names}
use Rattle.gq_plan_ir.specs.Reference.{Reference}
use Rattle.gq_eval_attributes.specs.declared.tuple_type.TupleType.{TupleType}
use Rattle.gq_eval_attributes.specs.Tuples.{tuples_are}
use Rattle.gq_frame.specs.declared.frame.Frame.{Frame}
use Rattle.gq_eval_context.specs.Viewed.{Viewed, Over, viewed}
use Rattle.gq_eval_context.specs.Looks.{graph_for, look_of}

-- a catalog and a store, and a plan with its tuple types
pub record Basis : Type 0 where
  pub schema : Schema
  pub vertices : List VertexRow
  pub edges : EdgeTable
  pub plan : Plan
  pub tuples : List TupleType

-- the index is that of the catalog and the store, and rows have the attributes and ends of their types
pub record HoldTogether (index : List (List Traversal)) (b : Basis) : Type 0 where
  pub indexed : index ≡ adjacency (sight_of b.schema b.vertices b.edges)
  pub attributes : HaveAttributes b.schema b.vertices
  pub ends : HaveEnds b.vertices b.edges.rows
  pub few : length b.plan.edges ≤ most_types

-- together with the contents of names and accumulators
abbrev pub over_of : Basis → Frame → Over
over_of b f = record { schema = b.schema; vertices = b.vertices; edges = b.edges; plan = b.plan; tuples = b.tuples; frame = f }

-- everything that stays the same while a query runs
abbrev pub world_on : Calendar → Basis → World Reference
world_on clock b = world_of (accum_names b.plan) (tuples_are b.tuples) (graph_for b.schema b.vertices b.edges b.plan) clock

-- ---- what an expression outside of a block sees

abbrev pub bare : Basis → Frame → Viewed
bare b f = viewed (over_of b f) [] f.accums f.accums

abbrev pub look_on : Calendar → Basis → Frame → Look Reference
look_on clock b f = look_of clock (bare b f)
