-- Last: which row of a table has a given key, searching from the end.
-- A table is seen here as the list of its rows' keys. The code walks chains of rows that share a bucket.
use Rattle.std.specs.Prelude.{ℕ, ◌<◌, ◌≡◌, ◌≢◌, List, Option, Some, None, slice_index}

-- the greatest number below the bound whose row has the key, if there is one
abbrev pub IsLast : List ℕ → ℕ → ℕ → Option ℕ → Type 0
IsLast keys key bound None = (k : ℕ) → k < bound → slice_index keys k ≢ key
IsLast keys key bound (Some n) =
    (n < bound) × (slice_index keys n ≡ key) × ((k : ℕ) → n < k → k < bound → slice_index keys k ≢ key)
