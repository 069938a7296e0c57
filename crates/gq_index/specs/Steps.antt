-- Steps: what is put into a store: one upsert, when it is refused, and sequences of upserts.
-- The specification searches each name from the first row on. The code looks names up in the tables, each name once.
use Rattle.std.specs.Prelude.{◌≡◌, ℕ, Bool, true, false, ◌&&◌, nat_le, if◌then◌else◌, List, [], ◌∷◌, ◌++◌, length, is_some, is_none, unwrap_or, fold, Result, Ok, Err}
use Rattle.gq_graph.specs.declared.rows.VertexRow.{VertexRow}
use Rattle.gq_graph.specs.declared.rows.EdgeRow.{EdgeRow}
use Rattle.gq_graph.specs.declared.rows.Naming.{Naming}
use Rattle.gq_graph.specs.declared.rows.StoreFault.{StoreFault}
use Rattle.gq_graph.specs.declared.rows.StoreFault.TheVariants as fault
use Rattle.gq_value.specs.declared.value.Value.{Value}
use Rattle.gq_graph.specs.Vertices.{vertex_number, upsert_vertex, most_vertices}
use Rattle.gq_graph.specs.Edges.{edge_with, edge_number, upsert_edge, most_edges}
use Rattle.gq_index.specs.declared.store.Store.{Store}

-- a vertex, by its type and id
pub record Name : Type 0 where
  pub kind : ℕ
  pub id : List ℕ

-- one upsert: of a vertex; of an end of an edge, which gets this row if it doesn't exist, and is unchanged if it does;
-- of an edge between two existing vertices
pub data Step : Type 0 where
  Vertex : VertexRow → Step
  End : VertexRow → Step
  Edge : Naming → Name → Name → List Value → Step

abbrev pub name_of : VertexRow → Name
name_of row = record { kind = row.kind; id = row.id }

-- the number of an existing vertex
abbrev pub number_of : Store → Name → ℕ
number_of store name = unwrap_or (vertex_number store.vertices name.kind name.id) 0

-- whether the vertex of that name exists
abbrev pub has_vertex : Store → Name → Bool
has_vertex store name = is_some (vertex_number store.vertices name.kind name.id)

-- the edge between two vertices
abbrev pub edge_between : Store → Naming → Name → Name → List Value → EdgeRow
edge_between store naming from to attributes = edge_with naming.kind (number_of store from) (number_of store to) attributes

-- the store after one upsert
abbrev pub after : Store → Step → Store
after store (Vertex row) = record store { vertices = upsert_vertex store.vertices row }
after store (End row) = if has_vertex store (name_of row) then store else record store { vertices = upsert_vertex store.vertices row }
after store (Edge naming from to attributes) =
    record store { edges = upsert_edge store.edges naming (edge_between store naming from to attributes) }

-- whether an upsert is refused: its name is new and its table is full
abbrev pub is_refused : Store → Step → Bool
is_refused store (Vertex row) = is_none (vertex_number store.vertices row.kind row.id) && nat_le most_vertices (length store.vertices)
is_refused store (End row) = is_none (vertex_number store.vertices row.kind row.id) && nat_le most_vertices (length store.vertices)
is_refused store (Edge naming from to attributes) =
    is_none (edge_number store.edges.rows naming (edge_between store naming from to attributes)) && nat_le most_edges (length store.edges.rows)

-- the store after a sequence of upserts
abbrev pub after_all : Store → List Step → Store
after_all store steps = fold after store steps

-- no upsert is refused
abbrev pub AllTaken : Store → List Step → Type 0
AllTaken store [] = Unit {0}
AllTaken store (step ∷ steps) = (is_refused store step ≡ false) × AllTaken (after store step) steps

-- all upserts succeed, and this store is their result
pub record Done (before : Store) (steps : List Step) (later : Store) : Type 0 where
  pub taken : AllTaken before steps
  pub leads : later ≡ after_all before steps

-- one of the upserts is refused, and the store is the result of those before it
pub record Refused (before : Store) (steps : List Step) (later : Store) : Type 0 where
  pub first : List Step
  pub refused : Step
  pub others : List Step
  pub whole : steps ≡ first ++ refused ∷ others
  pub done : Done before first later
  pub full : is_refused later refused ≡ true

-- the store is the result of a prefix of the upserts
pub record Begun (before : Store) (steps : List Step) (later : Store) : Type 0 where
  pub first : List Step
  pub others : List Step
  pub whole : steps ≡ first ++ others
  pub done : Done before first later

-- what a result says of the upserts: Ok, that all succeeded; Full, that one was refused; OutOfMemory, that a prefix
-- succeeded
abbrev pub Puts : {A : Type 0} → Store → List Step → Store → Result A StoreFault → Type 0
Puts before steps later (Ok a) = Done before steps later
Puts before steps later (Err fault.Full) = Refused before steps later
Puts before steps later (Err fault.OutOfMemory) = Begun before steps later
