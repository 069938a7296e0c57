-- KeyChains: how a table finds rows by their key. Each bucket holds its last row, and each row the row before it
-- in its bucket. A row is stored as its number plus one, so that 0 means none.
use Rattle.std.specs.Prelude.{ℕ, zero, suc, ◌<◌, ◌≤◌, ◌≡◌, ◌==◌, if◌then◌else◌, List, length, slice_index}
use Rattle.gq_base.specs.Keys.{bucket_of, numbers_of, links_of}
use Rattle.gq_base.specs.declared.key_chains.Entry.{Entry}

-- the last row below n in a bucket
abbrev pub latest : ℕ → List ℕ → ℕ → ℕ → ℕ
latest buckets keys bucket zero = 0
latest buckets keys bucket (suc n) =
    if bucket_of (slice_index keys n) buckets == bucket then suc n else latest buckets keys bucket n

-- the first n rows are in the chains of `buckets` buckets
pub record IsChainedTo (n buckets : ℕ) (heads keys before : List ℕ) : Type 0 where
  pub headed : (b : ℕ) → b < buckets → slice_index heads b ≡ latest buckets keys b n
  pub linked : (i : ℕ) → i < n → slice_index before i ≡ latest buckets keys (bucket_of (slice_index keys i) buckets) i

-- the buckets' last rows, and the entries of all rows
pub record IsChained (heads : List ℕ) (entries : List Entry) : Type 0 where
  pub room : 0 < length entries → 0 < length heads
  pub short : length heads ≤ 4294967296
  pub chains : IsChainedTo (length entries) (length heads) heads (numbers_of entries) (links_of entries)
