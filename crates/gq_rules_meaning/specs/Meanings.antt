-- Meanings: the possible values of an expression, and the operands and results of operations.
use Rattle.std.specs.Prelude.{ℕ, ◌^◌, Bool, if◌then◌else◌, nat_lt, List, ℤ, pos, Option, Some, None}
use Rattle.gq_value.specs.declared.value.Wrong.{Wrong}
use Rattle.gq_value.specs.declared.value.Wrong.TheVariants as wrong
use Rattle.gq_value.specs.declared.kind.Number.TheVariants as number
use Rattle.gq_value.specs.Val.{Val, Int, UInt, Truth, Text, Vertex}
use Rattle.gq_value.specs.Accums.{Base, INT, UINT, BOOL, STRING, DATETIME, Accum, SumAccum, MinAccum, MaxAccum, OrAccum, AndAccum, BitwiseOrAccum, BitwiseAndAccum, AvgAccum, Parts}
use Rattle.gq_value.specs.Arithmetic.{in_type}
use Rattle.gq_value.specs.Typed.{number_type, in_calendar}
use Rattle.gq_rules_typing.specs.Holds.{Holds, HoldsEach}
use Rattle.gq_rules_typing.specs.Reads.{value_in}
use Rattle.gq_rules_typing.specs.Statements.{Bytes}
use Rattle.gq_rules_meaning.specs.Answers.{Answer, Gives, Faults, Stuck, ◌>>=◌, found, of_result}

-- a value of a base type, an average, a whole collection, a group's row, an edge row with the type under which it was walked,
-- a set, or, within `S[..]`, the set and each vertex of it in turn
pub data Meant : Type 0 where
  Is : Base → Val → Meant
  IsAverage : Val → Meant
  IsContent : (k : Accum) → Holds k → Meant
  IsRow : (ps : Parts) → HoldsEach ps → Meant
  IsEdge : ℕ → ℕ → Meant
  IsSet : List ℕ → Meant
  IsMember : List ℕ → Base → ℕ → Meant

abbrev pub Outcome : Type 0
Outcome = Answer Wrong Meant

-- ---- the operands of operations

abbrev pub value_of_meant : Meant → Answer Wrong Val
value_of_meant (Is b v) = Gives v
value_of_meant (IsAverage v) = Gives v
value_of_meant _ = Stuck

abbrev pub vertex_of_meant : Meant → Answer Wrong ℕ
vertex_of_meant (Is b (Vertex v)) = Gives v
vertex_of_meant (IsMember set b v) = Gives v
vertex_of_meant _ = Stuck

abbrev pub as_number : Val → Answer Wrong ℤ
as_number (Int x) = Gives x
as_number (UInt n) = Gives (pos n)
as_number _ = Stuck

abbrev pub as_int : Val → Answer Wrong ℤ
as_int (Int x) = Gives x
as_int _ = Stuck

-- the seconds, if they are a DATETIME
abbrev pub if_in_calendar : ℤ → Option ℤ
if_in_calendar x = if in_calendar x then Some x else None

abbrev pub as_time : Val → Answer Wrong ℤ
as_time v = as_int v >>= λ x. found (if_in_calendar x)

abbrev pub as_truth : Val → Answer Wrong Bool
as_truth (Truth b) = Gives b
as_truth _ = Stuck

abbrev pub as_bytes : Val → Answer Wrong Bytes
as_bytes (Text s) = Gives s
as_bytes _ = Stuck

-- a number as another number type, if one is required, by value; other values stay
abbrev pub converted_to : Base → Val → Answer Wrong Val
converted_to INT v = as_number v >>= λ x. of_result (in_type number.Int x)
converted_to UINT v = as_number v >>= λ x. of_result (in_type number.UInt x)
converted_to b v = Gives v

-- ---- the results of operations

-- a number is of its own type
abbrev pub numbered : Val → Outcome
numbered (UInt n) = Gives (Is UINT (UInt n))
numbered v = Gives (Is INT v)

abbrev pub said : Bytes → Outcome
said s = Gives (Is STRING (Text s))

abbrev pub truly : Bool → Outcome
truly b = Gives (Is BOOL (Truth b))

abbrev pub counted : ℕ → Outcome
counted n = Gives (Is INT (Int (pos n)))

-- the seconds of a time, or Range
abbrev pub at_time : Option ℤ → Outcome
at_time None = Faults wrong.Range
at_time (Some x) = Gives (Is DATETIME (Int x))

-- up to 9223372036854775807 an INT, a larger one a UINT
abbrev pub literal : ℕ → Outcome
literal n = if nat_lt n (2 ^ 63) then Gives (Is INT (Int (pos n))) else Gives (Is UINT (UInt n))

-- the value that a content reads as
abbrev pub read : (k : Accum) → Holds k → Meant
read (SumAccum n) c = Is (number_type n) (value_in (SumAccum n) c)
read (MinAccum n) c = Is (number_type n) (value_in (MinAccum n) c)
read (MaxAccum n) c = Is (number_type n) (value_in (MaxAccum n) c)
read OrAccum c = Is BOOL (value_in OrAccum c)
read AndAccum c = Is BOOL (value_in AndAccum c)
read BitwiseOrAccum c = Is INT (value_in BitwiseOrAccum c)
read BitwiseAndAccum c = Is INT (value_in BitwiseAndAccum c)
read AvgAccum c = IsAverage (value_in AvgAccum c)
read k c = IsContent k c
