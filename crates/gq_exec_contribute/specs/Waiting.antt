-- Waiting: inputs whose rows are kept apart, and the inputs that they stand for.
use Rattle.std.specs.Prelude.{◌≡◌, ℕ, suc, ◌≤◌, ◌++◌, List, [], length, map, slice_index_or}
use Rattle.std.specs.List.{All}
use Rattle.gq_exec_contribute.specs.declared.rows.Ints.{Ints}
use Rattle.gq_exec_contribute.specs.declared.scalars.ScalarInput.{ScalarInput}
use Rattle.gq_exec_contribute.specs.declared.scalars.ScalarInput.TheVariants as scalar
use Rattle.gq_exec_contribute.specs.declared.waiting.PackedInput.{PackedInput}
use Rattle.gq_exec_contribute.specs.declared.waiting.PackedInput.TheVariants as packed
use Rattle.gq_exec_contribute.specs.declared.waiting.LentInput.{LentInput}
use Rattle.gq_exec_contribute.specs.declared.waiting.LentInput.TheVariants as lent

-- no row
abbrev pub no_row : Ints
no_row = record { count = 0; numbers = [] }

-- the row at a place
abbrev pub row_at : List Ints → ℕ → Ints
row_at rows place = slice_index_or rows place no_row

-- the input with its row
abbrev pub unpacked : List Ints → PackedInput → ScalarInput
unpacked rows (packed.Int x) = scalar.Int x
unpacked rows (packed.Truth b) = scalar.Truth b
unpacked rows (packed.Element x) = scalar.Element x
unpacked rows (packed.Tuple place) = scalar.Tuple (row_at rows place)
unpacked rows (packed.Keyed n place) = scalar.Keyed n (row_at rows place)

-- the input whose row is borrowed
abbrev pub own : LentInput → ScalarInput
own (lent.Int x) = scalar.Int x
own (lent.Truth b) = scalar.Truth b
own (lent.Element x) = scalar.Element x
own (lent.Tuple row) = scalar.Tuple row.now
own (lent.Keyed n row) = scalar.Keyed n row.now

-- a packed input with the number of its target
abbrev pub unpacked_head : List Ints → ℕ × PackedInput → ℕ × ScalarInput
unpacked_head rows head = (head.0, unpacked rows head.1)

abbrev pub inputs_of : List (ℕ × PackedInput) → List Ints → List (ℕ × ScalarInput)
inputs_of heads rows = map (unpacked_head rows) heads

-- how many rows there must be, so that its own is among them
abbrev pub rows_needed : PackedInput → ℕ
rows_needed (packed.Int x) = 0
rows_needed (packed.Truth b) = 0
rows_needed (packed.Element x) = 0
rows_needed (packed.Tuple place) = suc place
rows_needed (packed.Keyed n place) = suc place

abbrev pub IsPlaced : ℕ → ℕ × PackedInput → Type 0
IsPlaced count head = rows_needed head.1 ≤ count

-- each has its row among so many
pub record ArePlaced (heads : List (ℕ × PackedInput)) (count : ℕ) : Type 0 where
  pub each : All (IsPlaced count) heads

-- it stands for this input, whose row is appended if it has one
pub record IsPacked (old new : List Ints) (x : ScalarInput) (p : PackedInput) : Type 0 where
  pub more : List Ints
  pub added : new ≡ old ++ more
  pub placed : rows_needed p ≤ length new
  pub is : unpacked new p ≡ x
