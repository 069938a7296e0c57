-- Sorted: the tree of names, which a table of edges adds to the keys once they seem chosen to share a bucket.
use Rattle.std.specs.Prelude.{ℕ, ◌≡◌, Bool, List, [], ◌∷◌, ◌++◌, map, take, Option, Some, None, position}
use Rattle.std.specs.declared.cmp.Ordering.{Ordering}
use Rattle.std.specs.Ordering.{is_eq, nat_cmp, on, ordering_then}
use Rattle.std.specs.Cmp.Lexicographic.{slice_cmp}
use Rattle.std.specs.BTreeMap.{BTreeMap, get}
use Rattle.std.specs.Global.{Vec}
use Rattle.gq_graph.specs.declared.rows.EdgeRow.{EdgeRow}
use Rattle.gq_graph.specs.declared.rows.Naming.{Naming}
use Rattle.gq_graph.specs.Edges.{edge_number}
use Rattle.gq_value.specs.declared.value.Value.{Value}
use Rattle.gq_value.specs.Val.{Val, Vertex, UInt}
use Rattle.gq_value.specs.Views.{val}
use Rattle.gq_value.specs.Order.{place}
use Rattle.gq_edge.specs.Hashed.{row_hash}
use Rattle.gq_edge.specs.Keyed.{first_end, second_end}
use Rattle.gq_edge.specs.Named.{naming_at}

-- a name as a row of values, behind a hash of the row
abbrev pub Name : Type 0
Name = ℕ × Vec Value

-- the hash is that of the row
abbrev pub IsHashed : Name → Type 0
IsHashed name = name.0 ≡ row_hash (map val name.1.items)

-- edge numbers by name
abbrev pub Names : Type 0
Names = BTreeMap Name ℕ

-- an edge's name as a row of values: its ends in order, its type, its discriminators
abbrev pub name_row : Naming → EdgeRow → List Val
name_row naming edge =
    Vertex (first_end naming.directed edge.from edge.to) ∷ Vertex (second_end naming.directed edge.from edge.to) ∷ UInt edge.kind
    ∷ map val (take naming.key edge.attributes)

-- the name of a row
abbrev pub row_name : List Naming → EdgeRow → List Val
row_name namings row = name_row (naming_at namings row.kind) row

-- the order of names in the tree: by their hashes, and then value by value
abbrev pub name_cmp : Name → Name → Ordering
name_cmp a b = ordering_then (nat_cmp a.0 b.0) (slice_cmp (on val place) a.1.items b.1.items)

-- whether a row of values is that name
abbrev pub is_name : Name → List Val → Bool
is_name name row = is_eq (slice_cmp place row (map val name.1.items))

-- the tree, if there is one, maps these names to their numbers, and has no other names
abbrev pub AreSorted : List (List Val) → Option Names → Type 0
AreSorted names None = Unit {0}
AreSorted names (Some tree) = (name : Name) → IsHashed name → get name_cmp tree name ≡ position (is_name name) names

-- the same once an edge has its place: if it has no row yet, its name is there too
abbrev pub IsPlaced : List (List Val) → List Val → Option ℕ → Option Names → Type 0
IsPlaced names name (Some n) tree = AreSorted names tree
IsPlaced names name None tree = AreSorted (names ++ name ∷ []) tree

-- what a search in the tree needs
abbrev pub IsSorted : Naming → EdgeRow → List EdgeRow → Option Names → Type 0
IsSorted naming edge rows None = Unit {0}
IsSorted naming edge rows (Some tree) =
    (name : Name) → IsHashed name → map val name.1.items ≡ name_row naming edge
    → get name_cmp tree name ≡ edge_number rows naming edge
