-- Scalars: inputs made of INTs or a truth, as the inputs of a batch.
use Rattle.std.specs.Prelude.{ℕ, ℤ, List, map, take, drop}
use Rattle.gq_value.specs.declared.kind.Input.{Input}
use Rattle.gq_value.specs.declared.kind.Input.TheVariants as input
use Rattle.gq_value.specs.declared.value.Value.TheVariants as value
use Rattle.gq_exec_contribute.specs.declared.rows.Ints.{Ints}
use Rattle.gq_exec_contribute.specs.declared.scalars.ScalarInput.{ScalarInput}
use Rattle.gq_exec_contribute.specs.declared.scalars.ScalarInput.TheVariants as scalar

-- the INTs of a row
abbrev pub ints_of : Ints → List ℤ
ints_of row = take row.count row.numbers

-- an INT as an input
abbrev pub one_int : ℤ → Input
one_int x = input.One (value.Int x)

-- the input that is fed
abbrev pub made_of : ScalarInput → Input
made_of (scalar.Int x) = one_int x
made_of (scalar.Truth b) = input.One (value.Bool b)
made_of (scalar.Element x) = one_int x
made_of (scalar.Tuple row) = input.One (value.Tuple (map value.Int (ints_of row)))
made_of (scalar.Keyed n row) = input.Keyed (map value.Int (take n (ints_of row))) (map one_int (drop n (ints_of row)))

-- such an input with the number of its target
abbrev pub as_input : ℕ × ScalarInput → ℕ × Input
as_input x = (x.0, made_of x.1)

abbrev pub as_inputs : List (ℕ × ScalarInput) → List (ℕ × Input)
as_inputs xs = map as_input xs
