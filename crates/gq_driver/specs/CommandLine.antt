-- CommandLine: the meaning of a command line, given what is known of the files: lines and a status.
--
-- Here each file is requested when the definition comes to its name: first the script, and then the arguments, if a
-- file is named for them. `ScriptMeans` of `gq_driver` is the meaning of a script whose bytes are given.
use Rattle.std.specs.Prelude.{◌≡◌, ℕ, Bool, true, false, List, [], ◌∷◌, ◌++◌, Option, Some, None, codes}
use Rattle.gq_io.specs.Listing.{Listing}
use Rattle.gq_command.specs.Sample.{people_file, knows_file}
use Rattle.gq_command.specs.Script.{script_text}
use Rattle.gq_command.specs.declared.command.Command.{Command}
use Rattle.gq_command.specs.declared.command.Task.{Task}
use Rattle.gq_command.specs.declared.command.Task.TheVariants.{Script, Sample}
use Rattle.gq_command.specs.Words.{command_of}
use Rattle.gq_diagnostics.specs.Outcome.{Outcome, refused_with, usage}
use Rattle.gq_io.specs.Known.{Known, Told, Answer, Absent, TooLong, Bytes, MayAnswer}
use Rattle.gq_driver.specs.Scripts.{ScriptMeans}

-- ---- files

-- the outcome after the answer to a file's name: the run is refused here, or continues with the bytes
abbrev pub GoesOn : List ℕ → (List ℕ → Outcome → Type 0) → Answer → Outcome → Type 0
GoesOn name Rest Absent outcome = outcome ≡ refused_with (codes "missing file " ++ name)
GoesOn name Rest TooLong outcome = outcome ≡ refused_with (codes "file too large " ++ name)
GoesOn name Rest (Bytes bytes) outcome = Rest bytes outcome

-- the file with this name is requested, and the outcome depends on the answer
abbrev pub Asks : Known → List ℕ → (List ℕ → Outcome → Type 0) → Outcome → Type 0
Asks known name Rest outcome = (answer : Answer) × MayAnswer known name answer × GoesOn name Rest answer outcome

-- every outcome, and no outcome, for any bytes
abbrev pub Whatever : List ℕ → Outcome → Type 0
Whatever bytes outcome = Unit {0}

abbrev pub Never : List ℕ → Outcome → Type 0
Never bytes outcome = ⊥

-- the two files of a sample with `people` people
abbrev pub sample_files : ℕ → Listing
sample_files people = (codes "people.csv", people_file people) ∷ (codes "knows.csv", knows_file people) ∷ []

-- ---- tasks

-- the meaning of a sample with this limit on turns for a query, whatever files exist
abbrev pub SampleMeans : ℕ → ℕ → Outcome → Type 0
SampleMeans turns people outcome = ScriptMeans script_text (Told (sample_files people)) turns None outcome

module _ (known : Known) where
  -- the meaning of a script with these bytes, with this limit on turns for a query and with the file of its arguments,
  -- if one is named
  abbrev pub BytesMean : ℕ → Option (List ℕ) → List ℕ → Outcome → Type 0
  BytesMean turns None bytes outcome = ScriptMeans bytes known turns None outcome
  BytesMean turns (Some path) bytes outcome = Asks known path (λ file. ScriptMeans bytes known turns (Some file)) outcome

  -- the meaning of a task
  abbrev pub TaskMeans : ℕ → Task → Outcome → Type 0
  TaskMeans turns (Script path arguments) outcome = Asks known path (BytesMean turns arguments) outcome
  TaskMeans turns (Sample people) outcome = SampleMeans turns people outcome

  -- the meaning of a command; without one the command line is invalid
  abbrev pub CommandMeans : Option Command → Outcome → Type 0
  CommandMeans None outcome = outcome ≡ usage
  CommandMeans (Some command) outcome = TaskMeans command.turns command.task outcome

  -- the meaning of the words after the program's name
  abbrev pub Means : List (List ℕ) → Outcome → Type 0
  Means words outcome = CommandMeans (command_of words) outcome

-- ---- which runs request files

-- whether a task requests files: a sample generates its own
abbrev pub asks_for_files : Task → Bool
asks_for_files (Script path arguments) = true
asks_for_files (Sample people) = false

-- the same for the command of a command line
abbrev pub command_asks_for_files : Option Command → Bool
command_asks_for_files None = false
command_asks_for_files (Some command) = asks_for_files command.task
