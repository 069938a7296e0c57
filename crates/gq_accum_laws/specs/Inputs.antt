-- Inputs: what each kind takes from a list of inputs.
-- Each definition goes through a whole list of inputs. An input that its kind doesn't take has some meaning here too.
use Rattle.std.specs.Prelude.{if◌then◌else◌, ℕ, ℤ, pos, ◌+ℤ◌, ◌^◌, ◌%◌, Bool, false, List, [], ◌∷◌, map}
use Rattle.std.specs.List.{flat_map}
use Rattle.std.specs.Int.{cast_unsigned, cast_signed, w64}
use Rattle.std.specs.Int.RustNames.{bit_and, bit_or}
use Rattle.std.specs.Ordering.{is_eq}
use Rattle.gq_value.specs.Val.{Val, Int, Truth}
use Rattle.gq_value.specs.Arithmetic.{whole}
use Rattle.gq_value.specs.Accums.{Given, One, Keyed, Givens, no_given, given_and}
use Rattle.gq_accum_laws.specs.Gather.{into}
use Rattle.gq_accum_laws.specs.Holds.{row_cmp}

-- the value of an input
abbrev pub value_of : Given → Val
value_of (One v) = v
value_of (Keyed row xs) = Int (pos 0)

-- a value as a truth
abbrev pub truth : Val → Bool
truth (Truth b) = b
truth v = false

abbrev pub values : List Given → List Val
values xs = map value_of xs

abbrev pub numbers : List Given → List ℤ
numbers xs = map (λ x. whole (value_of x)) xs

abbrev pub truths : List Given → List Bool
truths xs = map (λ x. truth (value_of x)) xs

-- the sum of all
abbrev pub total : List ℤ → ℤ
total xs = into ◌+ℤ◌ xs (pos 0)

-- the 64 bits of an INT
abbrev pub word : ℤ → ℕ
word x = cast_unsigned w64 x % 2 ^ 64

-- the INT with the bits that are set in the one or the other, and in both
abbrev pub either_bits : ℤ → ℤ → ℤ
either_bits x y = cast_signed w64 (bit_or (word x) (word y))

abbrev pub both_bits : ℤ → ℤ → ℤ
both_bits x y = cast_signed w64 (bit_and (word x) (word y))

-- the key row of an input, and those of all
abbrev pub row_of : Given → List (List Val)
row_of (One v) = []
row_of (Keyed row ys) = row ∷ []

abbrev pub rows_in : List Given → List (List Val)
rows_in xs = flat_map row_of xs

-- the inputs that an input gives under one key row, part by part, and those of all inputs
abbrev pub own_of : List Val → Given → List Givens
own_of q (One v) = []
own_of q (Keyed row ys) = if is_eq (row_cmp q row) then ys ∷ [] else []

abbrev pub own : List Val → List Given → List Givens
own q xs = flat_map (own_of q) xs

-- the input to the first part, and those to the others
abbrev pub first : Givens → Given
first no_given = One (Int (pos 0))
first (given_and x xs) = x

abbrev pub rest : Givens → Givens
rest no_given = no_given
rest (given_and x xs) = xs
