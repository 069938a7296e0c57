-- Batches: records that were read, before any of their rows is put. No clause of another crate cites this.
use Rattle.std.specs.Prelude.{◌≡◌, ◌<◌, ◌++◌, ◌∷◌, ℕ, ℤ, Bool, true, false, List, [], length, map, slice_get, nat_lt, if◌then◌else◌, Option, Some}
use Rattle.std.specs.List.{flat_map}
use Rattle.gq_graph.specs.Catalog.{Schema}
use Rattle.gq_index.specs.Steps.{Step}
use Rattle.gq_load_csv.specs.Fields.{TellsTimes}
use Rattle.gq_load.specs.declared.route.Route.{Route}
use Rattle.gq_load.specs.declared.draft.Draft.{Draft}
use Rattle.gq_load.specs.declared.record.Verdict.{Verdict}
use Rattle.gq_load.specs.declared.record.Verdict.TheVariants as verdict
use Rattle.gq_load.specs.declared.record.ReadRecord.{ReadRecord}
use Rattle.gq_load.specs.Columns.{Fields}
use Rattle.gq_load.specs.Drafts.{all_drafted, AreSized}
use Rattle.gq_load.specs.Records.{Judged, Short, Unreadable, Loaded, judged, steps_from}

-- the judgement of a record, by its verdict and, if it is loaded, by its drafts
abbrev pub judged_by : Schema → List Route → Verdict → List Draft → Judged
judged_by schema routes verdict.Short drafts = Short
judged_by schema routes verdict.Unreadable drafts = Unreadable
judged_by schema routes verdict.Loaded drafts = Loaded (all_drafted schema routes drafts)

abbrev pub judged_of : Schema → List Route → ReadRecord → Judged
judged_of schema routes r = judged_by schema routes r.verdict r.drafts.items

-- the steps of records, in order
abbrev pub steps_in : List Judged → List Step
steps_in judgements = flat_map steps_from judgements

-- each record has a draft for each route
abbrev pub HaveDrafts : List Route → List ReadRecord → Type 0
HaveDrafts routes batch = (k : ℕ) (r : ReadRecord) → slice_get batch k ≡ Some r → length r.drafts.items ≡ length routes

-- the drafts of a record that is loaded have a value for each attribute
abbrev pub IsWhole : Schema → List Route → Verdict → List Draft → Type 0
IsWhole schema routes v drafts = v ≡ verdict.Loaded → AreSized schema routes drafts

-- the same for the first `count` records
abbrev pub AreWhole : Schema → List Route → ℕ → List ReadRecord → Type 0
AreWhole schema routes count batch =
    (k : ℕ) (r : ReadRecord) → k < count → slice_get batch k ≡ Some r → IsWhole schema routes r.verdict r.drafts.items

-- the batch holds the next records of those left before, and `after` is what is left after them
pub record ReadsOn (schema : Schema) (routes : List Route) (before after : List Fields) (batch : List ReadRecord) : Type 0 where
  pub taken : List Fields
  pub split : before ≡ taken ++ after
  pub judged : (read : List ℕ → Option ℤ) → TellsTimes read → map (judged_of schema routes) batch ≡ map (judged read schema routes) taken

-- a record was the next one, and this is what was read of it
pub record IsNext (schema : Schema) (routes : List Route) (before after : List Fields) (r : ReadRecord) : Type 0 where
  pub fields : Fields
  pub split : before ≡ fields ∷ after
  pub judged : (read : List ℕ → Option ℤ) → TellsTimes read → judged_of schema routes r ≡ judged read schema routes fields

-- the next record was read, or none was left
abbrev pub ReadsOne : Schema → List Route → List Fields → List Fields → ReadRecord → Bool → Type 0
ReadsOne schema routes before after r true = IsNext schema routes before after r
ReadsOne schema routes before after r false = before ≡ []

-- what is left after reading `count` records into a batch with this room: nothing, if they are fewer than the room
abbrev pub left_behind : ℕ → ℕ → List Fields → List Fields
left_behind count room after = if nat_lt count room then [] else after
