-- Viewed: what an `EvalContext` and a `BlockContext` borrow, and when the parts belong together.
use Rattle.std.specs.Prelude.{◌≡◌, ℕ, ◌≤◌, List, length, Option}
use Rattle.gq_graph.specs.Catalog.{Schema, most_types}
use Rattle.gq_graph.specs.Edges.{EdgeTable}
use Rattle.gq_graph.specs.declared.rows.VertexRow.{VertexRow}
use Rattle.gq_index.specs.declared.walks.Traversal.{Traversal}
use Rattle.gq_index.specs.Sights.{sight_of}
use Rattle.gq_index.specs.Walks.{adjacency}
use Rattle.gq_index.specs.Rows.{HaveAttributes, HaveEnds}
use Rattle.gq_frame.specs.declared.accums.Accums.{Accums}
use Rattle.gq_plan_ir.specs.declared.plan.Plan.{Plan}
use Rattle.gq_eval_attributes.specs.declared.tuple_type.TupleType.{TupleType}
use Rattle.gq_frame.specs.declared.frame.Frame.{Frame}
use Rattle.gq_frame.specs.declared.frame.Thing.{Thing}
use Rattle.gq_frame.specs.Names.{Placed}
use Rattle.gq_frame.specs.Slots.{AreSound}

-- a catalog and a store, a plan with its tuple types, the contents of names and accumulators, and the aliases with
-- their places
pub record Viewed : Type 0 where
  pub schema : Schema
  pub vertices : List VertexRow
  pub edges : EdgeTable
  pub plan : Plan
  pub tuples : List TupleType
  pub things : List (Option Thing)
  pub accums : Accums
  pub before : Accums
  pub aliases : List (ℕ × Placed)

-- the index is that of the catalog and the store, rows have their types' attributes and ends, and no content is spoiled
pub record Belongs (index : List (List Traversal)) (v : Viewed) : Type 0 where
  pub indexed : index ≡ adjacency (sight_of v.schema v.vertices v.edges)
  pub attributes : HaveAttributes v.schema v.vertices
  pub ends : HaveEnds v.vertices v.edges.rows
  pub few : length v.plan.edges ≤ most_types
  pub accums : AreSound v.accums
  pub earlier : AreSound v.before

-- ---- the context of a block

-- a catalog and a store, a plan with its tuple types, and the contents of names and accumulators
pub record Over : Type 0 where
  pub schema : Schema
  pub vertices : List VertexRow
  pub edges : EdgeTable
  pub plan : Plan
  pub tuples : List TupleType
  pub frame : Frame

-- the same for the context of a block
pub record GoTogether (index : List (List Traversal)) (s : Over) : Type 0 where
  pub indexed : index ≡ adjacency (sight_of s.schema s.vertices s.edges)
  pub attributes : HaveAttributes s.schema s.vertices
  pub ends : HaveEnds s.vertices s.edges.rows
  pub few : length s.plan.edges ≤ most_types
  pub accums : AreSound s.frame.accums

-- what an expression sees in it: aliases, the current accumulators, and those from before the block
abbrev pub viewed : Over → List (ℕ × Placed) → Accums → Accums → Viewed
viewed s aliases accums before = record { schema = s.schema; vertices = s.vertices; edges = s.edges; plan = s.plan; tuples = s.tuples; things = s.frame.things; accums = accums; before = before; aliases = aliases }
