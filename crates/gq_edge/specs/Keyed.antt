-- Keyed: the key of an edge's name as one number. If only the ends are part of the name, the key is the whole name: no
-- other edge has it. Otherwise it contains a hash of the values, of which nothing is guaranteed.
use Rattle.std.specs.Prelude.{ℕ, ◌+◌, ◌*◌, ◌/◌, ◌%◌, ◌<◌, ◌==◌, ◌&&◌, nat_lt, nat_le, ◌||◌, Bool, if◌then◌else◌, List, [], ◌∷◌, take, map, fold}
use Rattle.std.specs.Int.{cast_unsigned, w64}
use Rattle.gq_base.specs.Hash.{mixed, hash_from}
use Rattle.gq_graph.specs.declared.rows.EdgeRow.{EdgeRow}
use Rattle.gq_graph.specs.declared.rows.Naming.{Naming}
use Rattle.gq_value.specs.Val.{Val, Int, UInt, Truth, Text, Vertex, Tuple, Fraction, bit}
use Rattle.gq_value.specs.Views.{val}

-- a number of 64 bits from its two halves
abbrev pub wide : ℕ → ℕ → ℕ
wide hash n = hash_from hash ((n / 4294967296) ∷ (n % 4294967296) ∷ [])

-- the hash with one more value mixed in; a tuple is never a discriminator
abbrev pub value_hash : ℕ → Val → ℕ
value_hash hash (Int n) = wide hash (cast_unsigned w64 n)
value_hash hash (UInt n) = wide hash n
value_hash hash (Truth b) = mixed hash (bit b)
value_hash hash (Text bytes) = hash_from hash bytes
value_hash hash (Vertex n) = mixed hash n
value_hash hash (Tuple fields) = hash
value_hash hash (Fraction sum count) = wide hash (cast_unsigned w64 sum)

-- the hash with more values mixed in
abbrev pub values_hash : ℕ → List Val → ℕ
values_hash hash values = fold value_hash hash values

-- the first end in the key: the smaller one if the edge is undirected
abbrev pub first_end : Bool → ℕ → ℕ → ℕ
first_end directed from to = if directed || nat_le from to then from else to

-- the second end in the key
abbrev pub second_end : Bool → ℕ → ℕ → ℕ
second_end directed from to = if directed || nat_le from to then to else from

-- the type if only the ends are part of the name, and otherwise a hash of type and values
abbrev pub tag_of : ℕ → ℕ → List Val → ℕ
tag_of key kind values = if (key == 0) && nat_lt kind 2147483648 then kind else 2147483648 + values_hash (mixed 0 kind) values % 2147483648

abbrev pub edge_tag : Naming → EdgeRow → ℕ
edge_tag naming edge = tag_of naming.key edge.kind (map val (take naming.key edge.attributes))

-- the key of an edge's name: both ends, with the tag in the bits above them
abbrev pub edge_key : Naming → EdgeRow → ℕ
edge_key naming edge =
    edge_tag naming edge * 18446744073709551616
    + (first_end naming.directed edge.from edge.to * 4294967296 + second_end naming.directed edge.from edge.to)

-- the ends are numbers of 32 bits
abbrev pub HasEnds : EdgeRow → Type 0
HasEnds edge = (edge.from < 4294967296) × (edge.to < 4294967296)
