-- Lists: what the writer of a store has published, and what is pending.
use Rattle.std.specs.Prelude.{◌≡◌, ℕ, List, [], ◌∷◌, ◌++◌, Option, Some, None}
use Rattle.gq_load_check.specs.declared.insert.Insert.{Insert}
use Rattle.gq_store.specs.Entries.{rows_in}

-- inserts that readers may see, and inserts that they don't see yet
pub record Listed : Type 0 where
  pub published : List Insert
  pub pending : List Insert

abbrev pub none_listed : Listed
none_listed = record { published = []; pending = [] }

-- how many inserts may be added
abbrev pub most_inserts : ℕ
most_inserts = 1048576

-- what is pending: what the copies are still to take in, and behind it an insert that is held
abbrev pub pending_of : List (Option Insert) → Option Insert → List Insert
pending_of changes None = rows_in changes
pending_of changes (Some row) = rows_in changes ++ row ∷ []

-- what is published and what is pending: readers are shown the first, and these changes are still to be taken in
abbrev pub listed_of : List Insert → List (Option Insert) → Option Insert → Listed
listed_of rows changes held = record { published = rows; pending = pending_of changes held }

-- all inserts that were added
abbrev pub added : Listed → List Insert
added listed = listed.published ++ listed.pending

-- and one more, which isn't published yet
abbrev pub with_one : Listed → Insert → Listed
with_one listed row = record { published = listed.published; pending = listed.pending ++ row ∷ [] }

-- a seal is last
pub record EndsSealed (changes : List (Option Insert)) : Type 0 where
  pub before : List (Option Insert)
  pub whole : changes ≡ before ++ None ∷ []

-- what a reader has seen, and what it was told of
pub record Known : Type 0 where
  pub seen : List Insert
  pub told : List Insert

abbrev pub nothing_known : Known
nothing_known = record { seen = []; told = [] }

-- how many vertices and edges a store may hold when it is shared
abbrev pub most_base_vertices : ℕ
most_base_vertices = 2097152

abbrev pub most_base_edges : ℕ
most_base_edges = 15728640
