-- Records: the judgement of a record: it is short, unreadable or loaded.
use Rattle.std.specs.Prelude.{◌≤◌, ◌<◌, ℕ, ℤ, if◌then◌else◌, List, [], length, Option, Some, None}
use Rattle.gq_graph.specs.Catalog.{Schema}
use Rattle.gq_load_check.specs.Targets.{edge_type_at, HasTarget}
use Rattle.gq_index.specs.Steps.{Step}
use Rattle.gq_load.specs.declared.route.Route.{Route}
use Rattle.gq_load.specs.declared.record.Verdict.{Verdict}
use Rattle.gq_load.specs.declared.record.Verdict.TheVariants as verdict
use Rattle.gq_load.specs.Columns.{Fields}
use Rattle.gq_load.specs.Rows.{is_short, steps_of}

-- the judgement of a record; one that is loaded puts these upserts
pub data Judged : Type 0 where
  Short : Judged
  Unreadable : Judged
  Loaded : List Step → Judged

abbrev pub judged_as : Option (List Step) → Judged
judged_as None = Unreadable
judged_as (Some steps) = Loaded steps

-- a record that lacks a field is short; else, if a value can't be read, unreadable; else it is loaded into all
-- destinations
abbrev pub judged : (List ℕ → Option ℤ) → Schema → List Route → Fields → Judged
judged read schema routes fields = if is_short routes fields then Short else judged_as (steps_of read schema routes fields)

-- a record that isn't loaded puts nothing into the store
abbrev pub steps_from : Judged → List Step
steps_from Short = []
steps_from Unreadable = []
steps_from (Loaded steps) = steps

-- the verdict that the code returns
abbrev pub verdict_of : Judged → Verdict
verdict_of Short = verdict.Short
verdict_of Unreadable = verdict.Unreadable
verdict_of (Loaded steps) = verdict.Loaded

-- the ends of an edge type are vertex types of the catalog, and its discriminators are among its attributes
pub record HasEnds (schema : Schema) (kind : ℕ) : Type 0 where
  pub from : (edge_type_at schema kind).from < length schema.vertex_types
  pub to : (edge_type_at schema kind).to < length schema.vertex_types
  pub key : (edge_type_at schema kind).discriminators ≤ length (edge_type_at schema kind).attributes

-- the same for all edge types of a catalog
abbrev pub AllHaveEnds : Schema → Type 0
AllHaveEnds schema = (kind : ℕ) → kind < length schema.edge_types → HasEnds schema kind

-- a route's type exists
abbrev pub IsThere : Schema → Route → Type 0
IsThere schema route = HasTarget schema route.target
