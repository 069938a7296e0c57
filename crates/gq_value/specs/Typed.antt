-- Typed: which values are of a type, and which inputs a kind of accumulator takes. Only the form of a value is judged here,
-- and not whether a vertex is there. The code has these as conditions.
use Rattle.std.specs.Prelude.{ℕ, ◌^◌, Bool, true, false, ◌&&◌, nat_lt, List, [], ◌∷◌, map, ℤ, pos, negsuc, int_le}
use Rattle.gq_value.specs.declared.kind.Number.{Number}
use Rattle.gq_value.specs.declared.kind.Number.TheVariants as number
use Rattle.gq_value.specs.Arithmetic.{is_within}
use Rattle.gq_value.specs.Val.{Val, Vals, Int, UInt, Truth, Text, Vertex, Tuple, Fraction, none, more}
use Rattle.gq_value.specs.Accums.{Base, INT, UINT, BOOL, STRING, DATETIME, VERTEX, VERTEX_OF, TUPLE, Bases, no_base, base_and, Accum, SumAccum, MinAccum, MaxAccum, OrAccum, AndAccum, BitwiseOrAccum, BitwiseAndAccum, AvgAccum, SetAccum, BagAccum, ListAccum, MapAccum, GroupByAccum, HeapAccum, Parts, no_part, part_and, Given, One, Keyed, Givens, no_given, given_and}

-- seconds from the start of year 0 to the end of year 9999, counted from 1970
abbrev pub in_calendar : ℤ → Bool
in_calendar x = int_le (negsuc 62167219199) x && int_le x (pos 253402300799)

abbrev mutual
  -- a value of the type
  pub is_of : Base → Val → Bool
  is_of INT (Int x) = is_within number.Int x
  is_of UINT (UInt n) = nat_lt n (2 ^ 64)
  is_of BOOL (Truth b) = true
  is_of STRING (Text s) = true
  is_of DATETIME (Int x) = in_calendar x
  is_of VERTEX (Vertex v) = true
  is_of (VERTEX_OF t) (Vertex v) = true
  is_of (TUPLE n bs) (Tuple vs) = are_of bs vs
  is_of _ _ = false

  -- one value of each type, in order
  pub are_of : Bases → Vals → Bool
  are_of no_base none = true
  are_of (base_and b bs) (more v vs) = is_of b v && are_of bs vs
  are_of _ _ = false

abbrev pub row_is_of : List Base → List Val → Bool
row_is_of [] [] = true
row_is_of (b ∷ bs) (v ∷ vs) = is_of b v && row_is_of bs vs
row_is_of _ _ = false

abbrev pub number_type : Number → Base
number_type number.Int = INT
number_type number.UInt = UINT

-- a value that a kind without keys takes
abbrev pub takes : Accum → Val → Bool
takes (SumAccum n) = is_of (number_type n)
takes (MinAccum n) = is_of (number_type n)
takes (MaxAccum n) = is_of (number_type n)
takes OrAccum = is_of BOOL
takes AndAccum = is_of BOOL
takes BitwiseOrAccum = is_of INT
takes BitwiseAndAccum = is_of INT
takes AvgAccum = is_of INT
takes (SetAccum b) = is_of b
takes (BagAccum b) = is_of b
takes (ListAccum b) = is_of b
takes (MapAccum b k) = λ v. false
takes (GroupByAccum keys ps) = λ v. false
takes (HeapAccum b n by) = is_of b

abbrev mutual
  -- an input that the kind takes: one value of its type, or values of its key types with an input for each part
  pub suits : Accum → Given → Bool
  suits (MapAccum b k) (Keyed row (given_and x no_given)) = row_is_of (b ∷ []) row && suits k x
  suits (GroupByAccum keys ps) (Keyed row xs) = row_is_of (map (λ k. k.1) keys) row && suit ps xs
  suits k (One v) = takes k v
  suits _ _ = false

  pub suit : Parts → Givens → Bool
  suit no_part no_given = true
  suit (part_and name k ps) (given_and x xs) = suits k x && suit ps xs
  suit _ _ = false

-- a kind that holds one number, truth or average
abbrev pub is_scalar : Accum → Bool
is_scalar (SetAccum b) = false
is_scalar (BagAccum b) = false
is_scalar (ListAccum b) = false
is_scalar (MapAccum b k) = false
is_scalar (GroupByAccum keys ps) = false
is_scalar (HeapAccum b n by) = false
is_scalar _ = true

abbrev mutual
  -- a kind with no ListAccum at any level
  pub has_no_list : Accum → Bool
  has_no_list (ListAccum b) = false
  has_no_list (MapAccum b k) = has_no_list k
  has_no_list (GroupByAccum keys ps) = have_no_list ps
  has_no_list _ = true

  pub have_no_list : Parts → Bool
  have_no_list no_part = true
  have_no_list (part_and name k ps) = has_no_list k && have_no_list ps
