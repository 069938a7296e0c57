-- Keys: a row's key as one number, and the bucket in which the row is looked up.
use Rattle.std.specs.Prelude.{ℕ, ◌+◌, ◌*◌, ◌/◌, ◌%◌, List, map}
use Rattle.gq_base.specs.declared.key.Key.{Key}
use Rattle.gq_base.specs.declared.key_chains.Entry.{Entry}

-- the word in the lower 64 bits, the tag above it
abbrev pub number_of : Key → ℕ
number_of key = key.tag * 18446744073709551616 + key.word

-- the key of an entry, and the one before it in its chain
abbrev pub number_in : Entry → ℕ
number_in e = e.tag * 18446744073709551616 + e.word

abbrev pub numbers_of : List Entry → List ℕ
numbers_of entries = map number_in entries

abbrev pub links_of : List Entry → List ℕ
links_of entries = map (λ (e : Entry). e.before) entries

-- 32 bits that differ widely for keys that differ little
abbrev pub spread : ℕ → ℕ
spread number =
    (number % 18446744073709551616 + (number / 18446744073709551616) * 14029467366897019727 % 18446744073709551616) % 18446744073709551616
    * 11400714819323198485 % 18446744073709551616 / 4294967296

-- the only guarantee: it is a bucket, and the same one for equal keys
unfoldable pub bucket_of : ℕ → ℕ → ℕ
bucket_of number buckets = spread number * buckets / 4294967296
