-- Ranges: the ranges of a command's numbers, for every command that a command line gives. They follow from
-- `specs/Words.antt`, and are stated for callers.
use Rattle.std.specs.Prelude.{ℕ, ◌≤◌}
use Rattle.gq_io.specs.declared.shape.Shape.{Shape}
use Rattle.gq_command.specs.declared.command.Command.{Command}
use Rattle.gq_command.specs.declared.command.Task.{Task}
use Rattle.gq_command.specs.declared.command.Task.TheVariants.{Script, Sample}

-- a number from 1 to `most`
abbrev pub IsUpTo : ℕ → ℕ → Type 0
IsUpTo most n = (1 ≤ n) × (n ≤ most)

-- how work may be divided
pub record ShapeInRange (shape : Shape) : Type 0 where
  pub workers : IsUpTo 64 shape.workers
  pub chunk : IsUpTo 1048576 shape.chunk
  pub stripes : IsUpTo 256 shape.stripes

-- the number of people of a sample
abbrev pub TaskInRange : Task → Type 0
TaskInRange (Script path arguments) = Unit {0}
TaskInRange (Sample people) = IsUpTo 1000000 people

-- the numbers of a command are in their ranges
pub record InRange (command : Command) : Type 0 where
  pub shape : ShapeInRange command.shape
  pub turns : IsUpTo 1000000000 command.turns
  pub task : TaskInRange command.task
