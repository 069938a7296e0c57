-- Hash: the hash under which a name is looked up. The only guarantee is that equal names have equal hashes.
use Rattle.std.specs.Prelude.{ℕ, ◌+◌, ◌*◌, ◌%◌, List, fold}

-- the name's parts are the digits of a number, which is reduced by a prime below 2^32
unfoldable pub mixed : ℕ → ℕ → ℕ
mixed hash part = (hash * 2654435769 + part) % 4294967291

-- the hash of more parts, after those that came before
abbrev pub hash_from : ℕ → List ℕ → ℕ
hash_from hash parts = fold mixed hash parts
