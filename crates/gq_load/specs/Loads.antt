-- Loads: the effect of a LOAD of a file on a store, as a fold over the file's records, and its report.
-- The code reads a batch of records, puts their rows, and reads on.
use Rattle.std.specs.Prelude.{◌≡◌, ℕ, ℤ, if◌then◌else◌, List, [], ◌∷◌, drop, map, Option, Some, None, Result, Ok, Err}
use Rattle.std.specs.List.{flat_map}
use Rattle.gq_graph.specs.Catalog.{Schema}
use Rattle.gq_graph.specs.declared.rows.StoreFault.{StoreFault}
use Rattle.gq_load_check.specs.declared.job.LoadLine.{LoadLine}
use Rattle.gq_index.specs.declared.store.Store.{Store}
use Rattle.gq_load_csv.specs.Records.{records_of}
use Rattle.gq_index.specs.Steps.{Step, Done, Refused, Begun, Puts}
use Rattle.gq_load.specs.declared.fault.LoadFault.{LoadFault}
use Rattle.gq_load.specs.declared.fault.LoadFault.TheVariants as fault
use Rattle.gq_load.specs.declared.route.Route.{Route}
use Rattle.gq_load.specs.Columns.{Fields, columns_of, missing_name}
use Rattle.gq_load.specs.Routes.{route_of}
use Rattle.gq_load.specs.Records.{judged, steps_from}
use Rattle.gq_load.specs.declared.report.Report.{Report}
use Rattle.gq_load.specs.Reports.{report_of}

-- the upserts of records, in order
abbrev pub all_steps : (List ℕ → Option ℤ) → Schema → List Route → List Fields → List Step
all_steps read schema routes records = flat_map (λ fields. steps_from (judged read schema routes fields)) records

-- the report of records
abbrev pub report_on : (List ℕ → Option ℤ) → Schema → List Route → List Fields → Report
report_on read schema routes records = report_of (map (judged read schema routes) records)

-- the records of a file, as the line's options split them
abbrev pub records_in : LoadLine → List ℕ → List Fields
records_in line bytes = records_of line.separator line.quote bytes

-- the header is the first record, if the line has one
abbrev pub first_of : List Fields → Option Fields
first_of [] = None
first_of (header ∷ records) = Some header

abbrev pub header_of : LoadLine → List Fields → Option Fields
header_of line records = if line.header then first_of records else None

-- the records to load: the header isn't one of them, and isn't counted
abbrev pub loaded_of : LoadLine → List Fields → List Fields
loaded_of line records = if line.header then drop 1 records else records

-- the routes of a line, by the header
abbrev pub routes_of : Schema → LoadLine → Option Fields → List Route
routes_of schema line header = map (route_of schema header) line.destinations

-- the first column name that the header lacks
abbrev pub missing_of : LoadLine → Option Fields → Option (List ℕ)
missing_of line header = missing_name header (columns_of line.destinations)

-- all records were judged, and no upsert was refused
pub record IsLoaded (read : List ℕ → Option ℤ) (schema : Schema) (routes : List Route) (records : List Fields)
    (before later : Store) (report : Report) : Type 0 where
  pub done : Done before (all_steps read schema routes records) later
  pub counted : report ≡ report_on read schema routes records

-- what an answer says about records along routes: all were judged; or an upsert was refused, and those before it
-- remain; or memory ran out, and a prefix of the upserts was put
abbrev pub LoadsAlong : (List ℕ → Option ℤ) → Schema → List Route → List Fields → Store → Store → Result Report StoreFault → Type 0
LoadsAlong read schema routes records before later (Ok report) = IsLoaded read schema routes records before later report
LoadsAlong read schema routes records before later (Err f) = Puts {A = Report} before (all_steps read schema routes records) later (Err f)

-- every column exists, and each record is loaded, short or unreadable
pub record LoadsWhole (read : List ℕ → Option ℤ) (schema : Schema) (line : LoadLine) (header : Option Fields)
    (records : List Fields) (before later : Store) (report : Report) : Type 0 where
  pub found : missing_of line header ≡ None
  pub loaded : IsLoaded read schema (routes_of schema line header) records before later report

-- a column has a name that the header lacks, and nothing was loaded
pub record LacksColumn (line : LoadLine) (header : Option Fields) (before later : Store) (name : List ℕ) : Type 0 where
  pub missing : missing_of line header ≡ Some name
  pub same : later ≡ before

-- every column exists, and an upsert was refused
pub record FillsStore (read : List ℕ → Option ℤ) (schema : Schema) (line : LoadLine) (header : Option Fields)
    (records : List Fields) (before later : Store) : Type 0 where
  pub found : missing_of line header ≡ None
  pub refused : Refused before (all_steps read schema (routes_of schema line header) records) later

-- what an answer of a load says, by the header and the records after it
abbrev pub LoadsBy : (List ℕ → Option ℤ) → Schema → LoadLine → Option Fields → List Fields → Store → Store
    → Result Report LoadFault → Type 0
LoadsBy read schema line header records before later (Ok report) = LoadsWhole read schema line header records before later report
LoadsBy read schema line header records before later (Err (fault.NoColumn name)) = LacksColumn line header before later name
LoadsBy read schema line header records before later (Err fault.Full) = FillsStore read schema line header records before later
LoadsBy read schema line header records before later (Err fault.OutOfMemory) =
    Begun before (all_steps read schema (routes_of schema line header) records) later

-- what an answer of a load says about a file's records
abbrev pub Loads : (List ℕ → Option ℤ) → Schema → LoadLine → List Fields → Store → Store → Result Report LoadFault → Type 0
Loads read schema line records before later result =
    LoadsBy read schema line (header_of line records) (loaded_of line records) before later result
