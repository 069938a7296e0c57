-- Namings: how the edges of each type of a catalog are named.
use Rattle.std.specs.Prelude.{ℕ, List}
use Rattle.gq_graph.specs.declared.types.EdgeType.{EdgeType}
use Rattle.gq_graph.specs.declared.rows.Naming.{Naming}
use Rattle.gq_graph.specs.Edges.{Agrees, naming_with}

-- the edges of a type are named by their type, their ends (ordered if the type is directed) and its discriminators
abbrev pub naming_in : (ℕ → EdgeType) → ℕ → Naming
naming_in type_at kind = naming_with kind (type_at kind).directed (type_at kind).discriminators

-- existing edges are named as their types require
abbrev pub AreNamedBy : (ℕ → EdgeType) → List Naming → Type 0
AreNamedBy type_at namings = (kind : ℕ) → Agrees namings (naming_in type_at kind)
