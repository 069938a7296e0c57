-- Loads: what the LOADs of a job do, one after another, by what each of them does with the bytes of its file.
use Rattle.std.specs.Prelude.{◌≡◌, ℕ, zero, suc, ◌+◌, List, [], ◌∷◌, ◌++◌}
use Rattle.gq_diagnostics.specs.declared.refusal.Refusal.{Refusal}
use Rattle.gq_diagnostics.specs.declared.refusal.Refusal.TheVariants as refusal
use Rattle.gq_diagnostics.specs.Messages.{message_of}
use Rattle.gq_load_run.specs.declared.lines.FileReport.{FileReport}
use Rattle.gq_load_run.specs.Reports.{report_text}
use Rattle.gq_diagnostics.specs.Effects.{Effect, Becomes, Refused}
use Rattle.gq_load.specs.declared.report.Report.{Report}
use Rattle.gq_io.specs.Known.{Known, Answer, Absent, TooLong, Bytes, MayAnswer}
use Rattle.gq_load_run.specs.declared.place.LoadPath.{LoadPath}
use Rattle.gq_load_run.specs.declared.place.LoadPath.TheVariants.{At, Nowhere}

-- what a LOAD does with the bytes of its file: another state, with the counts of its records; or its refusal
pub data Loaded (S : Type 0) : Type 0 where
  Loads : S → Report → Loaded S
  Fails : Refusal → Loaded S

-- the report of a file
abbrev pub report_of : List ℕ → Report → FileReport
report_of path counts = record { file = path; lines = counts.lines; loaded = counts.loaded; short = counts.short; unreadable = counts.unreadable }

module _ {S : Type 0} (place_of : ℕ → LoadPath) (loaded_by : S → ℕ → List ℕ → Loaded S) (known : Known) where
  -- the effect after a LOAD of this path: its refusal, or the rest of the job after its report
  abbrev pub Continues : List ℕ → List FileReport → Loaded S → (S → List FileReport → Type 0) → Effect S → Type 0
  Continues path reports (Loads t counts) Rest effect = Rest t (reports ++ report_of path counts ∷ [])
  Continues path reports (Fails r) Rest effect = effect ≡ Refused (message_of r)

  -- the same, by what the file answers
  abbrev pub AnswerLoads : S → ℕ → List ℕ → List FileReport → Answer → (S → List FileReport → Type 0) → Effect S → Type 0
  AnswerLoads s number path reports Absent Rest effect = effect ≡ Refused (message_of (refusal.MissingFile path))
  AnswerLoads s number path reports TooLong Rest effect = effect ≡ Refused (message_of (refusal.TooLarge path))
  AnswerLoads s number path reports (Bytes bytes) Rest effect = Continues path reports (loaded_by s number bytes) Rest effect

  -- the same, by the place of the file
  abbrev pub PlaceLoads : S → ℕ → List FileReport → LoadPath → (S → List FileReport → Type 0) → Effect S → Type 0
  PlaceLoads s number reports (Nowhere name) Rest effect = effect ≡ Refused (message_of (refusal.NoPath name))
  PlaceLoads s number reports (At path) Rest effect =
      (answer : Answer) × MayAnswer known path answer × AnswerLoads s number path reports answer Rest effect

  -- what the remaining LOADs do from a state, if the first of them has this number, after these reports
  abbrev pub LoadsMean : S → ℕ → ℕ → List FileReport → Effect S → Type 0
  LoadsMean s number zero reports effect = effect ≡ Becomes s (report_text reports ∷ [])
  LoadsMean s number (suc left) reports effect =
      PlaceLoads s number reports (place_of number) (λ t more. LoadsMean t (number + 1) left more effect) effect
