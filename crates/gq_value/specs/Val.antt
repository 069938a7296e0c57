-- Val: values as plain data, for the definitions. The code's values own memory; `val` maps one to its plain data.
use Rattle.std.specs.Prelude.{ℕ, ℤ, pos, Bool, true, false, List, [], ◌∷◌}

mutual
  -- a value: a fraction is a sum over a count
  pub data Val : Type 0 where
    Int : ℤ → Val
    UInt : ℕ → Val
    Truth : Bool → Val
    Text : List ℕ → Val
    Vertex : ℕ → Val
    Tuple : Vals → Val
    Fraction : ℤ → ℕ → Val

  -- values in order
  pub data Vals : Type 0 where
    none : Vals
    more : Val → Vals → Vals

abbrev pub list_of : Vals → List Val
list_of none = []
list_of (more v vs) = v ∷ list_of vs

abbrev pub vals_of : List Val → Vals
vals_of [] = none
vals_of (v ∷ vs) = more v (vals_of vs)

-- the rank of a value by its form: numbers come first, then truths, texts, vertices, tuples
abbrev pub rank : Val → ℕ
rank (Truth b) = 1
rank (Text bytes) = 2
rank (Vertex n) = 3
rank (Tuple row) = 4
rank _ = 0

-- the numerator of a number as a fraction
abbrev pub above : Val → ℤ
above (Int n) = n
above (UInt n) = pos n
above (Fraction s n) = s
above _ = pos 0

-- and its denominator
abbrev pub count : Val → ℕ
count (Fraction s n) = n
count _ = 1

abbrev pub bit : Bool → ℕ
bit false = 0
bit true = 1

-- a vertex's number; false is 0, and true is 1
abbrev pub index : Val → ℕ
index (Truth b) = bit b
index (Vertex n) = n
index _ = 0

-- a text's bytes
abbrev pub bytes : Val → List ℕ
bytes (Text bs) = bs
bytes _ = []

-- a tuple's fields
abbrev pub fields : Val → Vals
fields (Tuple row) = row
fields _ = none

-- which of the three kinds of number a number is
abbrev pub tag : Val → ℕ
tag (UInt n) = 1
tag (Fraction s n) = 2
tag _ = 0
