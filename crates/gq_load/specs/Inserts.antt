-- Inserts: what an INSERT puts into a store, and what each answer says about it.
use Rattle.std.specs.Prelude.{◌≡◌, ◌≤◌, List, [], ◌∷◌, length, Result, Ok, Err}
use Rattle.gq_graph.specs.declared.rows.StoreFault.{StoreFault}
use Rattle.gq_graph.specs.declared.rows.StoreFault.TheVariants as fault
use Rattle.gq_graph.specs.declared.rows.VertexRow.{VertexRow}
use Rattle.gq_graph.specs.Edges.{naming_with, Agrees}
use Rattle.gq_index.specs.declared.store.Store.{Store}
use Rattle.gq_load_check.specs.declared.insert.Endpoint.{Endpoint}
use Rattle.gq_load_check.specs.declared.insert.Insert.{Insert}
use Rattle.gq_load_check.specs.declared.insert.Insert.TheVariants as insert
use Rattle.gq_index.specs.Steps.{Step, Vertex, Done, Refused}
use Rattle.gq_index.specs.Ends.{edge_steps}

-- the row of an end that doesn't exist yet
abbrev pub end_row : Endpoint → VertexRow
end_row end = record { kind = end.kind; id = end.id; attributes = end.missing }

-- the upserts of an insert: an edge is preceded by those of its ends that don't exist yet
abbrev pub steps_of_insert : Insert → List Step
steps_of_insert (insert.Vertex kind id attributes) = Vertex (record { kind = kind; id = id; attributes = attributes }) ∷ []
steps_of_insert (insert.Edge kind directed key from to attributes) =
    edge_steps (naming_with kind directed key) (end_row from) (end_row to) attributes

-- an edge's key is within its attributes, and existing edges of its type are named in the same way
abbrev pub IsNamedAs : Store → Insert → Type 0
IsNamedAs store (insert.Vertex kind id attributes) = Unit {0}
IsNamedAs store (insert.Edge kind directed key from to attributes) =
    (key ≤ length attributes) × Agrees store.edges.namings (naming_with kind directed key)

-- upserts are refused if one of them is
pub record AreRefused (before : Store) (steps : List Step) : Type 0 where
  pub later : Store
  pub refused : Refused before steps later

-- what an answer says about upserts that are put together: a refusal leaves the store unchanged
abbrev pub PutsAll : {A : Type 0} → Store → List Step → Store → Result A StoreFault → Type 0
PutsAll before steps later (Ok a) = Done before steps later
PutsAll before steps later (Err fault.Full) = (later ≡ before) × AreRefused before steps
PutsAll before steps later (Err fault.OutOfMemory) = later ≡ before

-- the same for an insert
abbrev pub Inserts : {A : Type 0} → Store → Insert → Store → Result A StoreFault → Type 0
Inserts before insert later result = PutsAll before (steps_of_insert insert) later result
