-- Arithmetic: the results of operations on whole numbers. They are exact: the true number as a value of its
-- type, or the fault Range if its type can't hold it. A zero divisor is the fault Zero, whatever the dividend.
-- The code computes in 64 or 128 bits; here numbers have no bounds until the result is judged.
use Rattle.std.specs.Prelude.{zero, ◌^◌, ◌-◌, ℤ, pos, negsuc, ◌+ℤ◌, ◌-ℤ◌, ◌*ℤ◌, neg_ℤ, unsigned_abs, int_le, ◌≤ℤ◌, int_div, int_rem, Bool, true, false, ◌&&◌, if◌then◌else◌, ◌++◌, Result, Ok, Err}
use Rattle.gq_value.specs.declared.kind.Number.{Number}
use Rattle.gq_value.specs.declared.kind.Number.TheVariants as number
use Rattle.gq_value.specs.declared.value.Wrong.{Wrong}
use Rattle.gq_value.specs.declared.value.Wrong.TheVariants.{Range, Zero}
use Rattle.gq_value.specs.Val.{Val, Int, UInt, Text}

-- a whole number
abbrev pub IsWhole : Val → Type 0
IsWhole (Int z) = Unit {0}
IsWhole (UInt n) = Unit {0}
IsWhole _ = ⊥

-- a text
abbrev pub IsText : Val → Type 0
IsText (Text bytes) = Unit {0}
IsText _ = ⊥

-- operands that can be added: two whole numbers, or two texts
abbrev pub IsSummable : Val → Val → Type 0
IsSummable (Text s) b = IsText b
IsSummable a b = IsWhole a × IsWhole b

-- its number; a value that isn't a whole number counts as 0 here
abbrev pub whole : Val → ℤ
whole (Int z) = z
whole (UInt n) = pos n
whole _ = pos 0

-- its type
abbrev pub type_of : Val → Number
type_of (UInt n) = number.UInt
type_of _ = number.Int

-- the type of a result: two UINT give UINT, any others INT
abbrev pub type_of_both : Val → Val → Number
type_of_both (UInt m) b = type_of b
type_of_both _ b = number.Int

-- the least number of a type
abbrev pub least : Number → ℤ
least number.Int = negsuc (2 ^ 63 - 1)
least number.UInt = pos 0

-- the greatest one
abbrev pub most : Number → ℤ
most number.Int = pos (2 ^ 63 - 1)
most number.UInt = pos (2 ^ 64 - 1)

-- a number that one of the types can hold
abbrev pub IsWide : ℤ → Type 0
IsWide z = (least number.Int ≤ℤ z) × (z ≤ℤ most number.UInt)

-- whether a type can hold a number
abbrev pub is_within : Number → ℤ → Bool
is_within t z = int_le (least t) z && int_le z (most t)

-- a number as a value of a type
abbrev pub as_type : Number → ℤ → Val
as_type number.Int z = Int z
as_type number.UInt z = UInt (unsigned_abs z)

-- a number as a value of a type that can hold it, else Range
abbrev pub in_type : Number → ℤ → Result Val Wrong
in_type t z = if is_within t z then Ok (as_type t z) else Err Range

-- a + b; two texts are joined
abbrev pub added : Val → Val → Result Val Wrong
added (Text s) (Text t) = Ok (Text (s ++ t))
added a b = in_type (type_of_both a b) (whole a +ℤ whole b)

-- a - b
abbrev pub subtracted : Val → Val → Result Val Wrong
subtracted a b = in_type (type_of_both a b) (whole a -ℤ whole b)

-- a * b
abbrev pub multiplied : Val → Val → Result Val Wrong
multiplied a b = in_type (type_of_both a b) (whole a *ℤ whole b)

-- whether a divisor is zero
abbrev pub is_zero : ℤ → Bool
is_zero (pos zero) = true
is_zero _ = false

-- a / b, which truncates towards zero
abbrev pub divided : Val → Val → Result Val Wrong
divided a b = if is_zero (whole b) then Err Zero else in_type (type_of_both a b) (int_div (whole a) (whole b))

-- a % b, which has the sign of a
abbrev pub remainder : Val → Val → Result Val Wrong
remainder a b = if is_zero (whole b) then Err Zero else in_type (type_of_both a b) (int_rem (whole a) (whole b))

-- -a, an INT
abbrev pub negated : Val → Result Val Wrong
negated a = in_type number.Int (neg_ℤ (whole a))

-- the absolute value of a, in the type of a
abbrev pub absolute : Val → Result Val Wrong
absolute a = in_type (type_of a) (pos (unsigned_abs (whole a)))

-- the same number in another type
abbrev pub converted : Val → Number → Result Val Wrong
converted a t = in_type t (whole a)
