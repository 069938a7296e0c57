-- Straight: rows that are read straight from a line. No clause of another crate cites this.
use Rattle.std.specs.Prelude.{◌≡◌, ℕ, ℤ, List, ◌∷◌, length, Option}
use Rattle.gq_graph.specs.Catalog.{Schema}
use Rattle.gq_load_csv.specs.Fields.{TellsTimes}
use Rattle.gq_load_check.specs.Targets.{value_count}
use Rattle.gq_load.specs.declared.route.Route.{Route}
use Rattle.gq_load.specs.declared.draft.Draft.{Draft}
use Rattle.gq_load.specs.Columns.{Fields}
use Rattle.gq_load.specs.Drafts.{all_drafted}
use Rattle.gq_load.specs.Records.{Loaded, judged}

-- a route has a column for each value
abbrev pub IsComplete : Schema → Route → Type 0
IsComplete schema route = length route.fields ≡ value_count schema route.target

-- the drafts hold the rows of the next record, which is loaded
pub record IsReadFrom (schema : Schema) (routes : List Route) (before after : List Fields) (drafts : List Draft) : Type 0 where
  pub fields : Fields
  pub split : before ≡ fields ∷ after
  pub judged : (read : List ℕ → Option ℤ) → TellsTimes read → Loaded (all_drafted schema routes drafts) ≡ judged read schema routes fields
