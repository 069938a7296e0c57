-- If the listing of the files is given, a command line means at most one outcome, and a run that goes on after a file
-- keeps to it.
use Rattle.std.proofs.Common.{◌≡◌, ℕ, ◌≤◌, List, ◌++◌, Option, Some, sym, ◌∙◌, subst, codes, arith}
use Rattle.gq_io.specs.Counts.{Rose}
use Rattle.gq_io.specs.Listing.{Listing}
use Rattle.gq_diagnostics.specs.declared.status.Status.{Status}
use Rattle.gq_diagnostics.specs.Outcome.{Outcome, KeepsTo, refused_with}
use Rattle.gq_diagnostics.proofs.OutcomeLemmas.{keeps_more, keeps_same}
use Rattle.gq_io.specs.Known.{Known, Told, Answer, Absent, TooLong, Bytes, MayAnswer, known_of}
use Rattle.gq_session.proofs.RunLemmas.{told_is_known}
use Rattle.gq_driver.specs.CommandLine.{GoesOn, Asks, Whatever, Never}

-- ---- a file of the listing has one answer

module _ (held : Option Listing) (name : List ℕ) (pairs : Listing) (told : held ≡ Some pairs) (Rest : List ℕ → Outcome → Type 0) (outcome : Outcome)
    (asks : Asks (Told pairs) name Rest outcome) where
  one_answer : (answer : Answer) (before now met : ℕ) → MayAnswer (known_of held before now met) name answer → GoesOn name Rest answer outcome
  one_answer answer before now met may =
      subst (λ a. GoesOn name Rest a outcome)
      (asks.1 ∙ sym (subst (λ k. MayAnswer k name answer) (told_is_known held pairs before now met told) may))
      asks.2

  -- the run continues with these bytes
  pub rest_of : (bytes items : List ℕ) → bytes ≡ items → ((before now met : ℕ) → MayAnswer (known_of held before now met) name (Bytes items)) → Rest bytes outcome
  rest_of bytes items is may = subst (λ b. Rest b outcome) (sym is) (one_answer (Bytes items) 0 0 0 (may 0 0 0))

-- ---- a file that is refused

module _ (held : Option Listing) (name : List ℕ) (before now met : ℕ) (pairs : Listing) (told : held ≡ Some pairs)
    (status : Status) (old new : Option (List ℕ)) (A B : Type 0) (outcome : Outcome) (asks : Asks (Told pairs) name Whatever outcome) where
  keeps_refusal : (what : List ℕ) → outcome ≡ refused_with (what ++ name) → KeepsTo (refused_with (what ++ name)) status old new ⊥ B → KeepsTo outcome status old new A B
  keeps_refusal what same keeps =
      keeps_same (refused_with (what ++ name)) outcome status old new A B same
      (keeps_more (refused_with (what ++ name)) status old new ⊥ B A B (λ (no : ⊥). absurd no) (λ rose. rose) keeps)

  pub keeps_absent : MayAnswer (known_of held before now met) name Absent → KeepsTo (refused_with (codes "missing file " ++ name)) status old new ⊥ B → KeepsTo outcome status old new A B
  keeps_absent may keeps = keeps_refusal (codes "missing file ") (one_answer held name pairs told Whatever outcome asks Absent before now met may) keeps

  pub keeps_too_long : MayAnswer (known_of held before now met) name TooLong → KeepsTo (refused_with (codes "file too large " ++ name)) status old new ⊥ B → KeepsTo outcome status old new A B
  keeps_too_long may keeps = keeps_refusal (codes "file too large ") (one_answer held name pairs told Whatever outcome asks TooLong before now met may) keeps

-- a refusal before any bytes are used doesn't depend on what follows them
module _ (known : Known) (name : List ℕ) (Rest : List ℕ → Outcome → Type 0) (outcome : Outcome) where
  pub asks_whatever : Asks known name Rest outcome → Asks known name Whatever outcome
  asks_whatever (Absent, may, on) = (Absent, may, on)
  asks_whatever (TooLong, may, on) = (TooLong, may, on)
  asks_whatever (Bytes bytes, may, on) = (Bytes bytes, may, tt)

  pub asks_never : Asks known name Never outcome → Asks known name Rest outcome
  asks_never (Absent, may, on) = (Absent, may, on)
  asks_never (TooLong, may, on) = (TooLong, may, on)
  asks_never (Bytes bytes, may, on) = absurd on

-- ---- a run that goes on after a file

-- the meaning of the run
pub asks_on : (held mid : Option Listing) (name bytes items : List ℕ) (before now met : ℕ) (Rest : Known → List ℕ → Outcome → Type 0) (outcome : Outcome)
    → mid ≡ held → bytes ≡ items → ((before now met : ℕ) → MayAnswer (known_of held before now met) name (Bytes items)) → Rest (known_of mid before now met) bytes outcome
    → Asks (known_of held before now met) name (Rest (known_of held before now met)) outcome
asks_on held mid name bytes items before now met Rest outcome same is may rest = (
  Bytes items,
  may before now met,
  subst (λ h. Rest (known_of h before now met) items outcome) same (subst (λ b. Rest (known_of mid before now met) b outcome) is rest),
)

-- the run keeps to it
pub keeps_on : (status : Status) (old mid new : Option (List ℕ)) (files_old files_mid files_new sink_old sink_mid sink_new : ℕ)
    → mid ≡ old → sink_mid ≡ sink_old → files_old ≤ files_mid → (outcome : Outcome)
    → KeepsTo outcome status mid new (Rose files_mid files_new) (Rose sink_mid sink_new)
    → KeepsTo outcome status old new (Rose files_old files_new) (Rose sink_old sink_new)
keeps_on status old mid new files_old files_mid files_new sink_old sink_mid sink_new unwritten sink_stays files_stay outcome keeps =
    keeps_more outcome status old new (Rose files_mid files_new) (Rose sink_mid sink_new) (Rose files_old files_new) (Rose sink_old sink_new)
    (λ rose. omega (arith, files_stay, rose)) (λ rose. omega (arith, sink_stays, rose))
    (subst (λ w. KeepsTo outcome status w new (Rose files_mid files_new) (Rose sink_mid sink_new)) unwritten keeps)
