-- Ints: batches of INTs as batches of inputs.
use Rattle.std.specs.Prelude.{ℕ, ℤ, List, map}
use Rattle.gq_value.specs.declared.kind.Input.{Input}
use Rattle.gq_value.specs.declared.kind.Input.TheVariants as input
use Rattle.gq_value.specs.declared.value.Value.TheVariants as value

-- an INT with the number of its target, as an input with that number
abbrev pub as_input : ℕ × ℤ → ℕ × Input
as_input x = (x.0, input.One (value.Int x.1))

abbrev pub as_inputs : List (ℕ × ℤ) → List (ℕ × Input)
as_inputs xs = map as_input xs
