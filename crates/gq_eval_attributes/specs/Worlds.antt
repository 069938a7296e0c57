-- Worlds: the graph of a catalog and a store, as the definitions have it: what a plan's expressions see.
use Rattle.std.specs.Prelude.{ℕ, List, [], Some, Result}
use Rattle.gq_index.specs.declared.store.Graph as code
use Rattle.gq_rules_typing.specs.Statements.{Bytes}
use Rattle.gq_rules_typing.specs.Sorts.{Fields}
use Rattle.gq_rules_meaning.specs.Calendars.{Calendar}
use Rattle.gq_rules_meaning.specs.Graphs.{Graph, graph_of}
use Rattle.gq_rules_meaning.specs.Meanings.{Outcome}
use Rattle.gq_rules_meaning.specs.Expressions.{World}
use Rattle.gq_plan_ir.specs.Belonging.{world_of}
use Rattle.gq_plan_ir.specs.Reference.{Reference}
use Rattle.gq_eval_operand.specs.declared.seen.Seen.{Seen}
use Rattle.gq_eval_operand.specs.declared.halt.Halt.{Halt}
use Rattle.gq_eval_operand.specs.Meant.{meant, Tells}

-- the graph of these vertex and edge types
abbrev pub graph_is : code.Graph → List ℕ → List ℕ → Graph
graph_is g vertices edges = graph_of g.catalog.now (Some (record { name = []; vertices = vertices; edges = edges })) g.store.now.vertices g.store.now.edges.rows

-- the answer is the one meant in each world over a catalog and a store
pub record InWorld (g : code.Graph) (meaning : World Reference → Outcome) (result : Result Seen Halt) : Type 0 where
  pub each : (vertices edges : List ℕ) (names : List Bytes) (tuples : List (Reference × Fields)) (clock : Calendar) → Tells meant (meaning (world_of names tuples (graph_is g vertices edges) clock)) result
