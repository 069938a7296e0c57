-- KeySlots: how a table finds rows by their key in slots. Each key of a row has one slot, which holds the key and its last
-- row, and each row holds the row before it of the same key. A row is stored as its number plus one, so that 0 means none.
use Rattle.std.specs.Prelude.{ℕ, ◌-◌, ◌<◌, ◌≤◌, ◌≡◌, ◌≢◌, nat_le, if◌then◌else◌, List, length, slice_index, Option, Some, None}
use Rattle.gq_base.specs.Keys.{bucket_of, numbers_of, links_of}
use Rattle.gq_base.specs.declared.key_chains.Entry.{Entry}

-- where the search for a key begins; the last 512 slots are the home of none
unfoldable pub home_of : ℕ → ℕ → ℕ
home_of key slots = if nat_le slots 512 then 0 else bucket_of key (slots - 512)

-- a place is that of the last row below the bound that has the key
pub record IsLatest (keys : List ℕ) (key bound place : ℕ) : Type 0 where
  pub low : place ≤ bound
  pub same : 0 < place → slice_index keys (place - 1) ≡ key
  pub past : (k : ℕ) → place ≤ k → k < bound → slice_index keys k ≢ key

-- row i is found in slot p: no slot on the way is free, and each has the key of an earlier row
pub record IsPlaced (slots : ℕ) (keys numbers places : List ℕ) (i p : ℕ) : Type 0 where
  pub within : p < slots
  pub from : home_of (slice_index keys i) slots ≤ p
  pub taken : 0 < slice_index places p
  pub same : slice_index numbers p ≡ slice_index keys i
  pub way : (q : ℕ) → home_of (slice_index keys i) slots ≤ q → q < p →
      (0 < slice_index places q) × ((j : ℕ) × (j < i) × (slice_index keys j ≡ slice_index numbers q))

-- the slots hold the first n rows
pub record IsHeld (n slots : ℕ) (keys numbers places : List ℕ) : Type 0 where
  pub placed : (i : ℕ) → i < n → (p : ℕ) × IsPlaced slots keys numbers places i p
  pub latest : (p : ℕ) → p < slots → 0 < slice_index places p → IsLatest keys (slice_index numbers p) n (slice_index places p)
  pub alone : (p q : ℕ) → p < slots → q < slots → 0 < slice_index places p → 0 < slice_index places q →
      slice_index numbers p ≡ slice_index numbers q → p ≡ q

abbrev pub Holds : List Entry → ℕ → List ℕ → Type 0
Holds slots n keys = IsHeld n (length slots) keys (numbers_of slots) (links_of slots)

-- the slots hold all rows, and each row holds the one before it
pub record IsTable (slots entries : List Entry) : Type 0 where
  pub short : length slots ≤ 4294967296
  pub held : Holds slots (length entries) (numbers_of entries)
  pub linked : (i : ℕ) → i < length entries →
      IsLatest (numbers_of entries) (slice_index (numbers_of entries) i) i (slice_index (links_of entries) i)

-- no slot from a key's home up to a place is free, or has the key
pub record IsPassed (slots key place : ℕ) (numbers places : List ℕ) : Type 0 where
  pub taken : (q : ℕ) → home_of key slots ≤ q → q < place → 0 < slice_index places q
  pub other : (q : ℕ) → home_of key slots ≤ q → q < place → slice_index numbers q ≢ key

-- the first slot from a key's home on that is free or has the key
pub record IsEnd (slots key place : ℕ) (numbers places : List ℕ) : Type 0 where
  pub within : place < slots
  pub from : home_of key slots ≤ place
  pub passed : IsPassed slots key place numbers places
  pub found : 0 < slice_index places place → slice_index numbers place ≡ key

abbrev pub Ends : List Entry → ℕ → Option ℕ → Type 0
Ends slots key None = IsPassed (length slots) key (length slots) (numbers_of slots) (links_of slots)
Ends slots key (Some place) = IsEnd (length slots) key place (numbers_of slots) (links_of slots)
