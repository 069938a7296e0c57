-- Keyed: the key of a vertex's name as one number. An id of at most seven bytes is its own key: no other id has it. A
-- longer id is represented by a hash, of which nothing is guaranteed.
use Rattle.std.specs.Prelude.{ℕ, ◌+◌, ◌*◌, ◌%◌, ◌<◌, nat_le, if◌then◌else◌, List, length, fold, slice_index}

-- an id is a list of bytes
abbrev pub IsBytes : List ℕ → Type 0
IsBytes id = (k : ℕ) → slice_index id k < 256

-- a number with one more digit appended; only the last seven digits are kept
abbrev pub packed_with : ℕ → ℕ → ℕ
packed_with word byte = (word * 256 + byte) % 72057594037927936

-- the bytes as the digits of a number
abbrev pub packed : List ℕ → ℕ
packed id = fold packed_with 0 id

-- four bytes as the digits of a number
abbrev pub four : List ℕ → ℕ → ℕ
four id at = ((slice_index id at * 256 + slice_index id (at + 1)) * 256 + slice_index id (at + 2)) * 256 + slice_index id (at + 3)

-- a hash with one more byte mixed in
unfoldable pub mixed_with : ℕ → ℕ → ℕ
mixed_with word byte = (word * 11400714819323198485 % 18446744073709551616 + byte) % 18446744073709551616

abbrev pub mixed : List ℕ → ℕ
mixed id = fold mixed_with 0 id

-- the word of an id: the id itself, packed, in the lower half of the words; else a hash, in the upper half
abbrev pub word : List ℕ → ℕ
word id = if nat_le (length id) 7 then packed id * 8 + length id else 9223372036854775808 + mixed id % 9223372036854775808

-- the key of a vertex's name: the type in the bits above the word
abbrev pub vertex_key : ℕ → List ℕ → ℕ
vertex_key kind id = kind * 18446744073709551616 + word id
