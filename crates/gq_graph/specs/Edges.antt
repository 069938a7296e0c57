-- Edges: the edges of a store, as a list of rows: how edges are named, and what an upsert does. An edge's number is its
-- place. Here an edge is searched for from the first row on. The code follows chains of rows whose names have one hash.
use Rattle.std.specs.Prelude.{ℕ, ◌≡◌, ◌==◌, ◌&&◌, ◌||◌, not, if◌then◌else◌, Bool, is_some, List, [], ◌∷◌, ◌++◌, take, find, Option, Some, None, position, slice_index_or, slice_set}
use Rattle.std.specs.Ordering.{is_eq}
use Rattle.std.specs.Cmp.Lexicographic.{pointwise}
use Rattle.gq_graph.specs.declared.rows.EdgeRow.{EdgeRow}
use Rattle.gq_graph.specs.declared.rows.Naming.{Naming}
use Rattle.gq_value.specs.declared.value.Value.{Value}
use Rattle.gq_value.specs.Views.{val}
use Rattle.gq_value.specs.Order.{place}

-- the rows, and how the edges of each type that has rows are named
pub record EdgeTable : Type 0 where
  pub rows : List EdgeRow
  pub namings : List Naming

-- an edge, from its parts
abbrev pub edge_with : ℕ → ℕ → ℕ → List Value → EdgeRow
edge_with kind from to attributes = record { kind = kind; from = from; to = to; attributes = attributes }

-- a naming, from its parts
abbrev pub naming_with : ℕ → Bool → ℕ → Naming
naming_with kind directed key = record { kind = kind; directed = directed; key = key }

-- whether two values are the same one
abbrev pub same_value : Value → Value → Bool
same_value a b = is_eq (place (val a) (val b))

-- whether two lists of values are the same one
abbrev pub same_values : List Value → List Value → Bool
same_values xs ys = pointwise same_value xs ys

-- whether two edges have the same ends, which have no order without a direction
abbrev pub same_ends : Bool → EdgeRow → EdgeRow → Bool
same_ends directed a b =
    ((b.from == a.from) && (b.to == a.to)) || (not directed && ((b.from == a.to) && (b.to == a.from)))

-- whether a row has the edge's name: its type, its ends and its discriminators
abbrev pub is_edge : Naming → EdgeRow → EdgeRow → Bool
is_edge naming edge row =
    (row.kind == edge.kind)
    && (same_ends naming.directed edge row && same_values (take naming.key edge.attributes) (take naming.key row.attributes))

-- the number of the row of the edge's name
abbrev pub edge_number : List EdgeRow → Naming → EdgeRow → Option ℕ
edge_number rows naming edge = position (is_edge naming edge) rows

-- no row
abbrev pub no_edge : EdgeRow
no_edge = record { kind = 0; from = 0; to = 0; attributes = [] }

-- the row with a number
abbrev pub edge_at : List EdgeRow → ℕ → EdgeRow
edge_at rows n = slice_index_or rows n no_edge

-- the row with that number keeps its ends and has the edge's attributes, or else the edge is appended
abbrev pub edge_put : List EdgeRow → EdgeRow → Option ℕ → List EdgeRow
edge_put rows edge (Some n) = slice_set rows n (record (edge_at rows n) { attributes = edge.attributes })
edge_put rows edge None = rows ++ edge ∷ []

-- how the edges of a type are named, once it has rows
abbrev pub naming_of : List Naming → ℕ → Option Naming
naming_of namings kind = find (λ naming. naming.kind == kind) namings

-- with the naming of one more type that has rows
abbrev pub noted : List Naming → Naming → List Naming
noted namings naming = if is_some (naming_of namings naming.kind) then namings else namings ++ naming ∷ []

-- an upsert: the edge of that name gets the attributes; with a new name it is appended
abbrev pub upsert_edge : EdgeTable → Naming → EdgeRow → EdgeTable
upsert_edge table naming edge = record {
  rows = edge_put table.rows edge (edge_number table.rows naming edge);
  namings = noted table.namings naming;
}

-- edges of the naming's type are named so, if there are any
abbrev pub Agrees : List Naming → Naming → Type 0
Agrees namings naming = (known : Naming) → naming_of namings naming.kind ≡ Some known → known ≡ naming

-- how many edges a store holds at most
abbrev pub most_edges : ℕ
most_edges = 16777216
