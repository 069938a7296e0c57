-- Refusals: why a loading job is refused: the first rule that fails, in source order. The code checks the rules in this
-- order and builds the fault of the first one that fails.
use Rattle.std.specs.Prelude.{ℕ, ◌≡◌, ◌≢◌, ◌==◌, if◌then◌else◌, List, [], ◌∷◌, length, take, Option, Some, None, Result, Ok, Err}
use Rattle.std.specs.List.{list_any}
use Rattle.std.specs.Option.{option_or}
use Rattle.gq_tree.specs.declared.job.FileTree.{FileTree}
use Rattle.gq_tree.specs.declared.job.FileTree.TheVariants as trees
use Rattle.gq_tree.specs.declared.job.Destination.{Destination}
use Rattle.gq_tree.specs.declared.job.LoadTree.{LoadTree}
use Rattle.gq_tree.specs.declared.job.JobLine.{JobLine}
use Rattle.gq_tree.specs.declared.job.JobLine.TheVariants.{Define, Load}
use Rattle.gq_tree.specs.declared.job.JobTree.{JobTree}
use Rattle.gq_graph.specs.declared.types.GraphType.{GraphType}
use Rattle.gq_graph.specs.Catalog.{Schema}
use Rattle.gq_load_check.specs.declared.job.Target.{Target}
use Rattle.gq_load_check.specs.declared.fault.JobFault.{JobFault}
use Rattle.gq_load_check.specs.declared.fault.JobFault.TheVariants as fault
use Rattle.gq_load_check.specs.Targets.{value_count, name_count, graph_at}
use Rattle.gq_load_check.specs.Fits.{is_default}
use Rattle.gq_load_check.specs.Options.{Opt, has_bad_option}
use Rattle.gq_load_check.specs.Lines.{defines, target_of}

-- a call returns the fault that is due, or OutOfMemory; it returns Ok only if none is due
abbrev pub Judges : {A : Type 0} → Option JobFault → Result A JobFault → Type 0
Judges due (Ok a) = due ≡ None
Judges due (Err f) = f ≢ fault.OutOfMemory → due ≡ Some f

-- the first fault among the items of a list
abbrev pub first_due : {A : Type 0} → (A → Option JobFault) → List A → Option JobFault
first_due due [] = None
first_due due (x ∷ xs) = option_or (due x) (first_due due xs)

abbrev pub bad_option : List Opt → Option JobFault
bad_option options = if has_bad_option options then Some fault.BadOption else None

-- the LOAD reads from a name that no line of the job defines
abbrev pub unknown_file : List JobLine → FileTree → Option JobFault
unknown_file lines (trees.Path path) = None
unknown_file lines (trees.Defined name) = if defines lines name then None else Some (fault.UnknownFile name)

abbrev pub wrong_count : Schema → Target → Destination → Option JobFault
wrong_count schema t d = if length d.columns == value_count schema t then None else Some (fault.WrongCount d.name)

-- an id or a discriminator is `_`
abbrev pub id_missing : Schema → Target → Destination → Option JobFault
id_missing schema t d = if list_any is_default (take (name_count schema t) d.columns) then Some (fault.IdMissing d.name) else None

-- why the columns of a destination are refused, given its type, or None if there is no such type
abbrev pub columns_refusal : Schema → Destination → Option Target → Option JobFault
columns_refusal schema d None = Some (fault.NoSuchType d.name)
columns_refusal schema d (Some t) = option_or (wrong_count schema t d) (id_missing schema t d)

abbrev pub destination_refusal : Schema → GraphType → Destination → Option JobFault
destination_refusal schema graph d = columns_refusal schema d (target_of schema graph d.table d.name)

-- why a LOAD is refused, among the lines of its job
abbrev pub load_refusal : Schema → GraphType → List JobLine → LoadTree → Option JobFault
load_refusal schema graph lines load =
    option_or (bad_option load.options)
    (option_or (unknown_file lines load.file) (first_due (destination_refusal schema graph) load.destinations))

abbrev pub line_refusal : Schema → GraphType → List JobLine → JobLine → Option JobFault
line_refusal schema graph lines (Define name path) = None
line_refusal schema graph lines (Load load) = load_refusal schema graph lines load

-- why a job is refused
abbrev pub job_refusal : Schema → ℕ → JobTree → Option JobFault
job_refusal schema graph job = first_due (line_refusal schema (graph_at schema graph) job.lines) job.lines
