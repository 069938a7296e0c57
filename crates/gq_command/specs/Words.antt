-- Words: the command that a command line gives, or None if the command line is invalid.
--
-- Here each part is a function of the rows that `clap` matched. The code reads the rows by name, and stops at the first part
-- that is invalid.
use Rattle.std.specs.Prelude.{ℕ, List, Option, Some, None, codes, option_map, option_and_then}
use Rattle.clap.specs.Words.{Row, Text, first_of}
use Rattle.gq_io.specs.declared.shape.Shape.{Shape}
use Rattle.gq_command.specs.declared.command.Command.{Command}
use Rattle.gq_command.specs.declared.command.Task.{Task}
use Rattle.gq_command.specs.declared.command.Task.TheVariants.{Script, Sample}
use Rattle.gq_command.specs.Line.{matched}
use Rattle.gq_command.specs.Number.{number_to, number_or}

-- the task of a script, a file of arguments and a number of people: a script with or without arguments, or a sample
abbrev pub task_with : (script arguments people : Option Text) → Option Task
task_with (Some path) arguments None = Some (Script path arguments)
task_with None None (Some people) = option_map Sample (number_to 1000000 people)
task_with _ _ _ = None

-- the task of the rows
abbrev pub task_of : List Row → Option Task
task_of rows = task_with (first_of (codes "script") rows) (first_of (codes "args") rows) (first_of (codes "sample") rows)

-- the shape with these parts, if all of them are valid
abbrev pub shape_with : (workers chunk stripes : Option ℕ) → Option Shape
shape_with (Some workers) (Some chunk) (Some stripes) = Some (record { workers = workers; chunk = chunk; stripes = stripes })
shape_with _ _ _ = None

-- how work is divided, by the rows: each option with its default and its range
abbrev pub shape_of : List Row → Option Shape
shape_of rows =
    shape_with
    (number_or 4 64 (first_of (codes "workers") rows))
    (number_or 1024 1048576 (first_of (codes "chunk") rows))
    (number_or 16 256 (first_of (codes "stripes") rows))

-- the limit on loop iterations in a query's run
abbrev pub turns_of : List Row → Option ℕ
turns_of rows = number_or 1000000 1000000000 (first_of (codes "turns") rows)

-- the command with these parts, if all of them are valid
abbrev pub command_with : Option Shape → Option ℕ → Option Task → Option Command
command_with (Some shape) (Some turns) (Some task) = Some (record { shape = shape; turns = turns; task = task })
command_with _ _ _ = None

-- the command of the rows
abbrev pub command_from : List Row → Option Command
command_from rows = command_with (shape_of rows) (turns_of rows) (task_of rows)

-- the command of the words
unfoldable pub command_of : List Text → Option Command
command_of words = option_and_then command_from (matched words)
