-- Loadings: the file that each LOAD of a job reads, and the effect of the file's bytes on the store.
use Rattle.std.specs.Prelude.{◌≡◌, ℕ, List, [], Option, Some, None, slice_get}
use Rattle.gq_graph.specs.Catalog.{Schema}
use Rattle.gq_diagnostics.specs.declared.refusal.Refusal.TheVariants as refusal
use Rattle.gq_diagnostics.specs.declared.refusal.StatementFault.{StatementFault}
use Rattle.gq_diagnostics.specs.declared.refusal.StatementFault.TheVariants as fault
use Rattle.gq_index.specs.declared.store.Store.{Store}
use Rattle.gq_load_check.specs.declared.job.FileName.{FileName}
use Rattle.gq_load_check.specs.declared.job.FileName.TheVariants as names
use Rattle.gq_load_check.specs.declared.job.LoadLine.{LoadLine}
use Rattle.gq_load_check.specs.declared.job.Job.{Job}
use Rattle.gq_index.specs.Steps.{Step, Begun, Refused}
use Rattle.gq_load.specs.Columns.{Fields}
use Rattle.gq_load.specs.declared.report.Report.{Report}
use Rattle.gq_load.specs.Loads.{all_steps, report_on, records_in, header_of, loaded_of, routes_of, missing_of}
use Rattle.gq_load_check.specs.Paths.{File, Given, path_of}
use Rattle.gq_load_run.specs.declared.place.LoadPath.{LoadPath}
use Rattle.gq_load_run.specs.declared.place.LoadPath.TheVariants.{At, Nowhere}
use Rattle.gq_load_run.specs.Loads.{Loaded, Loads, Fails}
use Rattle.gq_load_csv.specs.Readings.{reading}
use Rattle.gq_load.specs.Puts.{put_all}

-- ---- places

abbrev pub path_or : List ℕ → Option (List ℕ) → LoadPath
path_or name (Some path) = At path
path_or name None = Nowhere name

-- the path of a file that is given by name or by path
abbrev pub place_in : List File → List Given → FileName → LoadPath
place_in files given (names.Defined name) = path_or name (path_of files given name)
place_in files given (names.Path path) = At path

abbrev pub line_place : List File → List Given → Option LoadLine → LoadPath
line_place files given (Some line) = place_in files given line.file
line_place files given None = Nowhere []

-- where the LOAD with this number reads from, in a run that supplies these paths
unfoldable pub place_of : Job → List Given → ℕ → LoadPath
place_of job given number = line_place job.files given (slice_get job.lines number)

-- ---- loads

-- the upserts of a file's records
abbrev pub line_steps : Schema → LoadLine → List Fields → List Step
line_steps schema line records = all_steps reading schema (routes_of schema line (header_of line records)) (loaded_of line records)

-- the judgement of a file's records, counted
abbrev pub line_report : Schema → LoadLine → List Fields → Report
line_report schema line records = report_on reading schema (routes_of schema line (header_of line records)) (loaded_of line records)

abbrev pub stored_or : Report → Option Store → Loaded Store
stored_or report (Some store) = Loads store report
stored_or report None = Fails refusal.StoreFull

-- the records are loaded, unless a column has a name that the header lacks
abbrev pub unless_missing : Schema → LoadLine → List Fields → Store → Option (List ℕ) → Loaded Store
unless_missing schema line records store (Some name) = Fails (refusal.NoColumn name)
unless_missing schema line records store None = stored_or (line_report schema line records) (put_all store (line_steps schema line records))

-- what a LOAD does with the records of its file
abbrev pub line_loaded : Schema → LoadLine → List Fields → Store → Loaded Store
line_loaded schema line records store = unless_missing schema line records store (missing_of line (header_of line records))

abbrev pub no_records : Report
no_records = record { lines = 0; loaded = 0; short = 0; unreadable = 0 }

-- the same for the LOAD with a number; if there is none, nothing is done
abbrev pub one_loaded : Schema → Option LoadLine → List ℕ → Store → Loaded Store
one_loaded schema (Some line) bytes store = line_loaded schema line (records_in line bytes) store
one_loaded schema None bytes store = Loads store no_records

-- what the LOAD with this number does with the bytes of its file
unfoldable pub loaded_by : Schema → Job → Store → ℕ → List ℕ → Loaded Store
loaded_by schema job store number bytes = one_loaded schema (slice_get job.lines number) bytes store

-- ---- what remains

-- a refused LOAD leaves the store unchanged if a column has a name that the header lacks; else the upserts before the
-- one that found no room remain
abbrev pub RefusedLeaves : Option (List ℕ) → List Step → Store → Store → Type 0
RefusedLeaves (Some name) steps store later = later ≡ store
RefusedLeaves None steps store later = Refused store steps later

-- a LOAD of a file's records leaves this store by this fault; for OutOfMemory a prefix of the upserts was put
abbrev pub LineLeaves : Schema → LoadLine → List Fields → Store → StatementFault → Store → Type 0
LineLeaves schema line records store (fault.Refused r) later = RefusedLeaves (missing_of line (header_of line records)) (line_steps schema line records) store later
LineLeaves schema line records store fault.ReadFault later = ⊥
LineLeaves schema line records store fault.OutOfMemory later = Begun store (line_steps schema line records) later

-- the same for the LOAD with a number; if there is none, nothing fails
abbrev pub OneLeaves : Schema → Option LoadLine → List ℕ → Store → StatementFault → Store → Type 0
OneLeaves schema (Some line) bytes store f later = LineLeaves schema line (records_in line bytes) store f later
OneLeaves schema None bytes store f later = ⊥

-- the LOAD with this number leaves this store by this fault
unfoldable pub Leaves : Schema → Job → Store → ℕ → List ℕ → StatementFault → Store → Type 0
Leaves schema job store number bytes f later = OneLeaves schema (slice_get job.lines number) bytes store f later
