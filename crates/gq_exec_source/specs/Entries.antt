-- Entries: the walks of a step in the index: under the type itself if the step walks it as the index does, or
-- under the type of the opposite direction. If a step walks a type otherwise, the index doesn't have its walks.
use Rattle.std.specs.Prelude.{◌≡◌, ℕ, ◌==◌, ◌<◌, Bool, false, ◌&&◌, ◌||◌, not, if◌then◌else◌, List, map, length, Option, Some, None, slice_get}
use Rattle.std.specs.List.{All, flat_map}
use Rattle.std.specs.Option.{is_some}
use Rattle.gq_graph.specs.declared.types.EdgeType.{EdgeType}
use Rattle.gq_graph.specs.declared.rows.EdgeRow.{EdgeRow}
use Rattle.gq_index.specs.declared.walks.Traversal.{Traversal}
use Rattle.gq_index.specs.Walks.{walks_under}
use Rattle.gq_rules_typing.specs.Way.{Way}
use Rattle.gq_rules_typing.specs.Way.TheVariants as way
use Rattle.gq_exec_source.specs.declared.entries.Entry.{Entry}
use Rattle.gq_exec_source.specs.Hops.{taken_from}

-- whether each row of a type is walked from only one end
abbrev pub is_one_way : EdgeType → Bool
is_one_way type = type.directed || is_some type.forward

-- whether the index walks a type in this way
abbrev pub is_own_way : EdgeType → Way → Bool
is_own_way type way.Forward = is_one_way type
is_own_way type way.Backward = false
is_own_way type way.Both = not (is_one_way type)

-- whether a type is directed and isn't a reverse type
abbrev pub goes_forward : Option EdgeType → Bool
goes_forward (Some type) = type.directed && not (is_some type.forward)
goes_forward None = false

-- whether a type is the reverse type of this one
abbrev pub is_forward : ℕ → Option ℕ → Bool
is_forward e (Some base) = base == e
is_forward e None = false

abbrev pub reverses : ℕ → Option EdgeType → Bool
reverses e (Some type) = is_forward e type.forward
reverses e None = false

abbrev pub only_if : Bool → ℕ → Option ℕ
only_if b n = if b then Some n else None

-- the type of the opposite direction: the forward type of a reverse type, and the reverse type of any other
abbrev pub other_among : List EdgeType → ℕ → Option ℕ → Option ℕ → Option ℕ
other_among types e (Some base) reverse = only_if (goes_forward (slice_get types base)) base
other_among types e None (Some reverse) = only_if (reverses e (slice_get types reverse)) reverse
other_among types e None None = None

abbrev pub other_way : List EdgeType → ℕ → EdgeType → Option ℕ
other_way types e type = other_among types e type.forward type.reverse

-- the type under which the index has the walks along a type in a way
abbrev pub entry_in : List EdgeType → ℕ → EdgeType → Way → Option ℕ
entry_in types e type way.Backward = other_way types e type
entry_in types e type w = only_if (is_own_way type w) e

-- the walks that the index has from a vertex under a type, as walks under another
abbrev pub found : List EdgeType → List EdgeRow → ℕ → Entry → List Traversal
found types edges v entry = map {B = Traversal} (λ (walk : Traversal). record walk { kind = entry.kind }) (walks_under types edges v entry.under)

-- the index entries under these types are these walks, from each vertex and for all rows
pub record AreFound (types : List EdgeType) (entries : List Entry) (walks : List EdgeRow → List Traversal) : Type 0 where
  pub there : All (λ (entry : Entry). entry.under < length types) entries
  pub same : (edges : List EdgeRow) (v : ℕ) → flat_map (found types edges v) entries ≡ taken_from v (walks edges)
