-- Packed: lists one after another in one list, each with room behind it.
use Rattle.std.specs.Prelude.{ℕ, ◌+◌, ◌-◌, ◌<◌, ◌≤◌, List, length, map, take, drop, slice_index_or}
use Rattle.gq_index.specs.declared.packed.Span.{Span}
use Rattle.gq_index.specs.declared.walks.Neighbor.{Neighbor}

-- a span, by its number
abbrev pub span_at : List Span → ℕ → Span
span_at spans v = slice_index_or spans v (record { start = 0; stop = 0 })

-- the ways in a span
abbrev pub part : List Neighbor → Span → List Neighbor
part ways span = take (span.stop - span.start) (drop span.start ways)

-- the ways in each span
abbrev pub parts : List Span → List Neighbor → List (List Neighbor)
parts spans ways = map (part ways) spans

-- a span, moved behind so many ways
abbrev pub moved : ℕ → Span → Span
moved first span = record { start = first + span.start; stop = first + span.stop }

-- each span ends where the next one begins, or before; the last one ends within the first `size` places
pub record AreApart (spans : List Span) (size : ℕ) : Type 0 where
  pub up : (v : ℕ) → v < length spans → (span_at spans v).start ≤ (span_at spans v).stop
  pub within : (v : ℕ) → v < length spans → (span_at spans v).stop ≤ size
  pub apart : (a b : ℕ) → a < b → b < length spans → (span_at spans a).stop ≤ (span_at spans b).start

-- the place behind a span is in no later one
pub record HasRoom (spans : List Span) (size v : ℕ) : Type 0 where
  pub here : (span_at spans v).stop < size
  pub before : (b : ℕ) → v < b → b < length spans → (span_at spans v).stop < (span_at spans b).start
