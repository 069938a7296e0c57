-- Spans: parts of a list, when they are apart, and a list with some items written over others.
use Rattle.std.specs.Prelude.{ℕ, zero, suc, ◌+◌, ◌*◌, ◌<◌, ◌≤◌, ◌++◌, ◌∷◌, ◌⊎◌, List, [], length, map, take, drop, slice_index_or}
use Rattle.gq_graph.specs.declared.row_values.Span.{Span}
use Rattle.gq_value.specs.declared.value.Value.{Value}

-- the items of a part of a list
abbrev pub part_of : List Value → Span → List Value
part_of values span = take span.len (drop span.start values)

-- the rows that parts of a list are
abbrev pub rows_of : List Span → List Value → List (List Value)
rows_of spans values = map (part_of values) spans

-- no part
abbrev pub no_span : Span
no_span = record { start = 0; len = 0 }

-- a part, by its number
abbrev pub span_at : List Span → ℕ → Span
span_at spans n = slice_index_or spans n no_span

-- parts of one width, one after the other from the first item on
abbrev pub even_spans : ℕ → ℕ → List Span
even_spans zero width = []
even_spans (suc n) width = even_spans n width ++ record { start = n * width; len = width } ∷ []

-- one part ends before the other begins
abbrev pub IsBefore : Span → Span → Type 0
IsBefore a b = a.start + a.len ≤ b.start

-- all parts are within the list, and no two have an item in common
pub record AreApart (spans : List Span) (len : ℕ) : Type 0 where
  pub within : (k : ℕ) → k < length spans → (span_at spans k).start + (span_at spans k).len ≤ len
  pub apart : (i j : ℕ) → i < j → j < length spans → IsBefore (span_at spans i) (span_at spans j) ⊎ IsBefore (span_at spans j) (span_at spans i)

-- a list with a row in the places of other items, from `start` on
abbrev pub written : List Value → ℕ → List Value → List Value
written values start row = take start values ++ (row ++ drop (start + length row) values)
