-- Named: what the table of edges keeps beside its rows: the naming of each type, and the key of each row's name.
use Rattle.std.specs.Prelude.{ℕ, ◌≡◌, ◌<◌, ◌≤◌, false, true, is_some, unwrap_or, List, length, map, slice_index}
use Rattle.gq_graph.specs.declared.rows.EdgeRow.{EdgeRow}
use Rattle.gq_graph.specs.declared.rows.Naming.{Naming}
use Rattle.gq_graph.specs.Edges.{is_edge, edge_at, naming_of, most_edges}
use Rattle.gq_edge.specs.Keyed.{edge_tag, edge_key, HasEnds}

-- the naming of a type that has rows
abbrev pub naming_at : List Naming → ℕ → Naming
naming_at namings kind = unwrap_or (naming_of namings kind) (record { kind = 0; directed = false; key = 0 })

-- the key of a row's name
abbrev pub row_key : List Naming → EdgeRow → ℕ
row_key namings row = edge_key (naming_at namings row.kind) row

-- each type with rows has its naming, each row its key, no two rows have one name, and their number is within the limit
pub record AreNamed (rows : List EdgeRow) (namings : List Naming) (keys : List ℕ) : Type 0 where
  pub known : (k : ℕ) → k < length rows → is_some (naming_of namings (edge_at rows k).kind) ≡ true
  pub keyed : keys ≡ map (row_key namings) rows
  pub ends : (k : ℕ) → k < length rows → HasEnds (edge_at rows k)
  pub apart : (i j : ℕ) → i < j → j < length rows
      → is_edge (naming_at namings (edge_at rows i).kind) (edge_at rows i) (edge_at rows j) ≡ false
  pub few : length rows ≤ most_edges

-- what a search for an edge's name needs: rows of that name have its key, and there is at most one such row;
-- if the key is the whole name, all rows of the key have the name
pub record IsFindable (naming : Naming) (edge : EdgeRow) (rows : List EdgeRow) (keys : List ℕ) : Type 0 where
  pub long : length keys ≡ length rows
  pub hits : (k : ℕ) → k < length rows → is_edge naming edge (edge_at rows k) ≡ true → slice_index keys k ≡ edge_key naming edge
  pub one : (i j : ℕ) → i < j → j < length rows
      → is_edge naming edge (edge_at rows i) ≡ true → is_edge naming edge (edge_at rows j) ≡ true → ⊥
  pub exact : HasEnds edge → edge_tag naming edge < 2147483648
      → (k : ℕ) → k < length rows → slice_index keys k ≡ edge_key naming edge → is_edge naming edge (edge_at rows k) ≡ true
