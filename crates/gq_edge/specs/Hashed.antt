-- Hashed: a second hash of an edge's name, by which the tree of names is ordered first. Nothing is guaranteed of it.
use Rattle.std.specs.Prelude.{ℕ, ◌+◌, ◌*◌, ◌%◌, List, fold}
use Rattle.std.specs.Int.{cast_unsigned, w64}
use Rattle.gq_value.specs.Val.{Val, Int, UInt, Truth, Text, Vertex, Tuple, Fraction, bit}

-- a hash of 64 bits with one more part of a name
unfoldable pub mixed : ℕ → ℕ → ℕ
mixed hash part = (hash * 11400714819323198485 % 18446744073709551616 + part) % 18446744073709551616

-- the hash with one more value mixed in; a tuple is never a discriminator
abbrev pub value_mixed : ℕ → Val → ℕ
value_mixed hash (Int n) = mixed hash (cast_unsigned w64 n)
value_mixed hash (UInt n) = mixed hash n
value_mixed hash (Truth b) = mixed hash (bit b)
value_mixed hash (Text bytes) = fold mixed hash bytes
value_mixed hash (Vertex n) = mixed hash n
value_mixed hash (Tuple fields) = hash
value_mixed hash (Fraction sum count) = mixed hash (cast_unsigned w64 sum)

-- the hash of a row of values
abbrev pub row_hash : List Val → ℕ
row_hash row = fold value_mixed 0 row
