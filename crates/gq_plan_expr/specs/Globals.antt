-- Globals: what the names of a query resolve to anywhere in it, and, with the names in view, what all names resolve to.
use Rattle.std.specs.Prelude.{ℕ, Bool, List, Option}
use Rattle.gq_scope.specs.Named.{Named, place_at, is_marked}
use Rattle.gq_rules_typing.specs.Statements.{Bytes}
use Rattle.gq_plan_ir.specs.declared.expr.Field.{Field}
use Rattle.gq_plan_ir.specs.declared.expr.Function.{Function}
use Rattle.gq_plan_expr.specs.Known.{Known}

-- accumulators, fields, functions, the edge types that `outdegree` counts, and the types of the graph
pub record Globals : Type 0 where
  pub slot : Bytes → Option ℕ
  pub field : Bytes → Field
  pub function : Bytes → Option Function
  pub counted : Option Bytes → Option (List ℕ)
  pub vertex_type : Bytes → Option ℕ
  pub edge_type : Bytes → Option ℕ

-- for a SELECT, besides what an expression needs: whether a visible name is a set; the vertex and edge types of the
-- graph, by name
pub record Sees : Type 0 where
  pub is_set : Bytes → Bool
  pub vertex_type : Bytes → Option ℕ
  pub edge_type : Bytes → Option ℕ

-- ---- with the names in view; a marked one is a set

abbrev pub known_in : Globals → Named → Known
known_in g n = record { place = place_at n; slot = g.slot; field = g.field; function = g.function; counted = g.counted }

abbrev pub sees_in : Globals → Named → Sees
sees_in g n = record { is_set = is_marked n; vertex_type = g.vertex_type; edge_type = g.edge_type }
