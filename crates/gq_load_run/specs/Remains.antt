-- Remains: what a job leaves if not all of its LOADs end, by the fault that ends it and by what its files hold.
-- Some of its LOADs ended, one after another, and the next one left what it leaves by this fault.
use Rattle.std.specs.Prelude.{◌≡◌, ◌<◌, ◌⊎◌, ℕ, zero, suc, List}
use Rattle.gq_diagnostics.specs.declared.refusal.Refusal.{Refusal}
use Rattle.gq_diagnostics.specs.declared.refusal.Refusal.TheVariants as refusal
use Rattle.gq_diagnostics.specs.declared.refusal.StatementFault.{StatementFault}
use Rattle.gq_diagnostics.specs.declared.refusal.StatementFault.TheVariants as fault
use Rattle.gq_load.specs.declared.report.Report.{Report}
use Rattle.gq_io.specs.Known.{Known, Answer, Absent, TooLong, Bytes, MayAnswer}
use Rattle.gq_load_run.specs.declared.place.LoadPath.{LoadPath}
use Rattle.gq_load_run.specs.declared.place.LoadPath.TheVariants.{At, Nowhere}
use Rattle.gq_load_run.specs.Loads.{Loaded, Loads, Fails}

-- the file of the LOAD with this number may hold these bytes
abbrev pub MayRead : (ℕ → LoadPath) → Known → ℕ → List ℕ → Type 0
MayRead place_of known number bytes = (path : List ℕ) × (place_of number ≡ At path) × MayAnswer known path (Bytes bytes)

module _ {S : Type 0} (place_of : ℕ → LoadPath) (loaded_by : S → ℕ → List ℕ → Loaded S) (known : Known) where
  -- the LOAD with this number ends in this state, over bytes that its file may hold
  abbrev pub Ends : S → ℕ → S → Type 0
  Ends s number t = (bytes : List ℕ) × (counts : Report) × MayRead place_of known number bytes × (loaded_by s number bytes ≡ Loads t counts)

  -- the first `number` LOADs end, and lead to this state
  abbrev pub LeadTo : S → ℕ → S → Type 0
  LeadTo s zero t = t ≡ s
  LeadTo s (suc number) t = (u : S) × LeadTo s number u × Ends u number t

module _ {S : Type 0} (place_of : ℕ → LoadPath) (loaded_by : S → ℕ → List ℕ → Loaded S) (Leaves : S → ℕ → List ℕ → StatementFault → S → Type 0) (known : Known) where
  -- a LOAD of this path is refused like this, by what its file answers, and leaves this state
  abbrev pub AnswerLeaves : S → ℕ → List ℕ → Answer → Refusal → S → Type 0
  AnswerLeaves s number path Absent r t = (r ≡ refusal.MissingFile path) × (t ≡ s)
  AnswerLeaves s number path TooLong r t = (r ≡ refusal.TooLarge path) × (t ≡ s)
  AnswerLeaves s number path (Bytes bytes) r t = (loaded_by s number bytes ≡ Fails r) × Leaves s number bytes (fault.Refused r) t

  -- the same, by the place of the file
  abbrev pub PlaceLeaves : S → ℕ → LoadPath → Refusal → S → Type 0
  PlaceLeaves s number (Nowhere name) r t = (r ≡ refusal.NoPath name) × (t ≡ s)
  PlaceLeaves s number (At path) r t = (answer : Answer) × MayAnswer known path answer × AnswerLeaves s number path answer r t

  -- the LOAD with this number breaks the job off by this fault, and leaves this state: unchanged, unless the load of
  -- its bytes began
  abbrev pub BreaksOff : S → ℕ → StatementFault → S → Type 0
  BreaksOff s number (fault.Refused r) t = PlaceLeaves s number (place_of number) r t
  BreaksOff s number fault.ReadFault t = (path : List ℕ) × (place_of number ≡ At path) × (t ≡ s)
  BreaksOff s number fault.OutOfMemory t = (t ≡ s) ⊎ ((bytes : List ℕ) × MayRead place_of known number bytes × Leaves s number bytes fault.OutOfMemory t)

  -- some of the first `count` LOADs end, and the next one breaks the job off
  abbrev pub EndEarly : S → ℕ → StatementFault → S → Type 0
  EndEarly s count f t = (number : ℕ) × (u : S) × (number < count) × LeadTo place_of loaded_by known s number u × BreaksOff u number f t

  -- what remains of `count` LOADs if they end by this fault; memory may also run out for their reports alone
  abbrev pub Remains : S → ℕ → StatementFault → S → Type 0
  Remains s count (fault.Refused r) t = EndEarly s count (fault.Refused r) t
  Remains s count fault.ReadFault t = EndEarly s count fault.ReadFault t
  Remains s count fault.OutOfMemory t = EndEarly s count fault.OutOfMemory t ⊎ LeadTo place_of loaded_by known s count t
