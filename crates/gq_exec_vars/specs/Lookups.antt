-- Lookups: the context of set expressions, as a world and a state of the definitions.
use Rattle.std.specs.Prelude.{◌≡◌, ℕ, List, [], ◌∷◌, Option, Some, None}
use Rattle.std.specs.Option.{option_map}
use Rattle.gq_graph.specs.declared.rows.VertexRow.{VertexRow}
use Rattle.gq_value.specs.Accums.{Base, VERTEX_OF}
use Rattle.gq_value.specs.Val.{Val, Vertex}
use Rattle.gq_index.specs.Sights.{vertex_kinds}
use Rattle.gq_rules_typing.specs.Words.{if_own}
use Rattle.gq_rules_meaning.specs.Expressions.{World}
use Rattle.gq_rules_meaning.specs.States.{State, Thing, Variable}
use Rattle.gq_plan_ir.specs.Reference.{Reference, VertexType}
use Rattle.gq_plan_ir.specs.References.{same}
use Rattle.gq_frame.specs.Shows.{Shows}
use Rattle.gq_exec_vars.specs.declared.lookup.Lookup.{Lookup}

-- a world over this store, whose graph has these vertex types
pub record IsOver (vertices : List VertexRow) (own : List ℕ) (world : World Reference) : Type 0 where
  pub like : world.words.same ≡ same
  pub vertex_type : (t : ℕ) → world.words.vertex_type (VertexType t) ≡ if_own own (Some t)
  pub types : world.graph.sorts.own_vertices ≡ own
  pub kinds : world.graph.sight.kinds ≡ vertex_kinds vertices

-- the world and the state of the look-up
pub record IsSeen (at : Lookup) (world : World Reference) (s : State Reference) : Type 0 where
  pub over : IsOver at.vertices.now at.own.now world
  pub shows : Shows at.frame.now s

-- the type and the value of a variable
abbrev pub variable_in : Option Thing → Option (Base × Val)
variable_in (Some (Variable b v)) = Some (b, v)
variable_in o = None

abbrev pub vertex_of : Val → Option ℕ
vertex_of (Vertex v) = Some v
vertex_of v = None

-- the same, if the value is a vertex
abbrev pub vertex_in : Option (Base × Val) → Option (Base × ℕ)
vertex_in None = None
vertex_in (Some x) = option_map (λ v. (x.0, v)) (vertex_of x.1)

-- the types that a vertex of a base type may have
abbrev pub base_types : List ℕ → Base → List ℕ
base_types own (VERTEX_OF t) = t ∷ []
base_types own b = own
