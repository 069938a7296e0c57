-- How a run goes from one statement to the next.
use Rattle.std.proofs.Common.{◌≡◌, ℕ, ◌+◌, ◌≤◌, List, [], ◌∷◌, ◌++◌, length, drop, Option, Some, refl, ap, sym, ◌∙◌, subst}
use Rattle.std.proofs.lemmas.List.{append-nil, drop_all}
use Rattle.std.proofs.lemmas.List.Folds.{concat-append}
use Rattle.std.specs.List.{concat}
use Rattle.gq_io.specs.Listing.{Listing}
use Rattle.gq_io.specs.Sink.{Appends, AppendsPrefix}
use Rattle.gq_token.specs.Lines.{line_of}
use Rattle.gq_tree.specs.declared.statement.Statement.{Statement}
use Rattle.gq_tree.specs.declared.statement.Placed.{Placed}
use Rattle.gq_diagnostics.specs.Messages.{refusal_text}
use Rattle.gq_diagnostics.specs.Outcome.{Outcome, KeepsTo, Ends, done, ended_by, lines_then}
use Rattle.gq_diagnostics.specs.declared.status.Status.{Status}
use Rattle.gq_diagnostics.specs.declared.status.Status.TheVariants.{Done}
use Rattle.gq_diagnostics.proofs.OutcomeLemmas.{keeps_after, ends_after, keeps_more, keeps_same, lines_then_more, appends_after, wrote_none, prefix_of_more}
use Rattle.gq_io.specs.Known.{Known, Told, known_of}
use Rattle.gq_diagnostics.specs.Effects.{Effect, Becomes, Refused}
use Rattle.gq_session.specs.Runs.{Follows, Runs}
use Rattle.gq_session.specs.Statements.{State, Does}
use Rattle.gq_session.specs.StatementLaws.{does_one}

-- if the listing of the files is given, it is what is known, whatever the counts are
pub told_is_known : (held : Option Listing) (pairs : Listing) (before now met : ℕ) → held ≡ Some pairs → known_of held before now met ≡ Told pairs
told_is_known held pairs before now met is = ap (λ h. known_of h before now met) is

-- a prefix of some lines is a prefix of them with more lines
pub prefix_of_lines : (old new : Option (List ℕ)) (lines others : List (List ℕ)) → AppendsPrefix old new (concat lines) → AppendsPrefix old new (concat (lines ++ others))
prefix_of_lines old new lines others some = subst (AppendsPrefix old new) (sym (concat-append lines others)) (prefix_of_more old new (concat lines) (concat others) some)

module _ (bytes : List ℕ) where
  -- ---- one statement

  module _ (s : State) (p : Placed) (others : List Placed) where
    pub runs_refused : (known : Known) (message : List ℕ) → Does known s p.statement (Refused message) → Runs bytes known s (p ∷ others) (ended_by (refusal_text (line_of bytes p.from) message))
    runs_refused known message does = (Refused message, does, refl)

    pub runs_on : (known : Known) (t : State) (lines : List (List ℕ)) (rest : Outcome) → Does known s p.statement (Becomes t lines) → Runs bytes known t others rest → Runs bytes known s (p ∷ others) (lines_then lines rest)
    runs_on known t lines rest does runs = (Becomes t lines, does, (rest, runs, refl))

    module _ (pairs : Listing) (outcome : Outcome) (runs : Runs bytes (Told pairs) s (p ∷ others) outcome) where
      pub refused_runs : (message : List ℕ) → Does (Told pairs) s p.statement (Refused message) → outcome ≡ ended_by (refusal_text (line_of bytes p.from) message)
      refused_runs message does =
          subst (λ e. Follows (line_of bytes p.from) e (λ t. Runs bytes (Told pairs) t others) outcome)
          (does_one pairs s p.statement runs.0 (Refused message) runs.1 does) runs.2

      pub on_runs : (t : State) (lines : List (List ℕ)) → Does (Told pairs) s p.statement (Becomes t lines) → (rest : Outcome) × Runs bytes (Told pairs) t others rest × (outcome ≡ lines_then lines rest)
      on_runs t lines does =
          subst (λ e. Follows (line_of bytes p.from) e (λ u. Runs bytes (Told pairs) u others) outcome)
          (does_one pairs s p.statement runs.0 (Becomes t lines) runs.1 does) runs.2

      -- a run that ends before the lines of its statement are written
      pub keeps_unwritten : (t : State) (lines : List (List ℕ)) → Does (Told pairs) s p.statement (Becomes t lines) → (status : Status) (old new : Option (List ℕ)) (A B : Type 0)
          → ((rest : Outcome) → KeepsTo (lines_then lines rest) status old new A B) → KeepsTo outcome status old new A B
      keeps_unwritten t lines does status old new A B keeps =
          let more = on_runs t lines does in
          keeps_same (lines_then lines more.0) outcome status old new A B more.2 (keeps more.0)

  -- ---- a prefix of the statements

  module _ (held : Option Listing) (first : State) (statements : List Placed) where
    -- before the statement at this place: what was printed, and how the run of the rest determines that of the whole
    pub record HasCome (place : ℕ) (s : State) (old now : Option (List ℕ)) : Type 0 where
      pub lines : List (List ℕ)
      pub wrote : Appends old now (concat lines)
      pub whole : (before now met : ℕ) (rest : Outcome)
          → Runs bytes (known_of held before now met) s (drop place statements) rest
          → Runs bytes (known_of held before now met) first statements (lines_then lines rest)
      pub only : (pairs : Listing) → held ≡ Some pairs → (outcome : Outcome) → Runs bytes (Told pairs) first statements outcome
          → (rest : Outcome) × Runs bytes (Told pairs) s (drop place statements) rest × (outcome ≡ lines_then lines rest)

    pub come_first : (old : Option (List ℕ)) → HasCome 0 first old old
    come_first old = record {
      lines = [];
      wrote = wrote_none old;
      whole = λ before now met rest runs. runs;
      only = λ pairs is outcome runs. (outcome, runs, refl);
    }

    module _ (place : ℕ) (s : State) (old mid : Option (List ℕ)) (come : HasCome place s old mid)
        (p : Placed) (next : drop place statements ≡ p ∷ drop (place + 1) statements) where
      pub come_next : (t : State) (lines : List (List ℕ)) (new : Option (List ℕ))
          → ((before now met : ℕ) → Does (known_of held before now met) s p.statement (Becomes t lines))
          → Appends mid new (concat lines) → HasCome (place + 1) t old new
      come_next t lines new does wrote = record {
        lines = come.lines ++ lines;
        wrote = appends_after come.lines old mid new come.wrote lines wrote;
        whole = λ before now met rest runs.
            subst (Runs bytes (known_of held before now met) first statements) (lines_then_more come.lines lines rest)
            (come.whole before now met (lines_then lines rest)
            (subst (λ ps. Runs bytes (known_of held before now met) s ps (lines_then lines rest)) (sym next)
            (runs_on s p (drop (place + 1) statements) (known_of held before now met) t lines rest (does before now met) runs)));
        only = λ pairs is outcome runs.
            let left = come.only pairs is outcome runs in
            let told = subst (λ k. Does k s p.statement (Becomes t lines)) (told_is_known held pairs 0 0 0 is) (does 0 0 0) in
            let more = on_runs s p (drop (place + 1) statements) pairs left.0
            (subst (λ ps. Runs bytes (Told pairs) s ps left.0) next left.1) t lines told in
            (more.0, more.1, left.2 ∙ ap (lines_then come.lines) more.2 ∙ lines_then_more come.lines lines more.0);
      }

      -- the run ends at this statement
      pub keeps_here : (status : Status) (new : Option (List ℕ)) (A B C D : Type 0) → (A → C) → (B → D) → (pairs : Listing) → held ≡ Some pairs
          → ((outcome : Outcome) → Runs bytes (Told pairs) s (p ∷ drop (place + 1) statements) outcome → KeepsTo outcome status mid new A B)
          → (outcome : Outcome) → Runs bytes (Told pairs) first statements outcome → KeepsTo outcome status old new C D
      keeps_here status new A B C D f g pairs is keeps outcome runs =
          let left = come.only pairs is outcome runs in
          keeps_same (lines_then come.lines left.0) outcome status old new C D left.2
          (keeps_more (lines_then come.lines left.0) status old new A B C D f g
          (keeps_after come.lines old mid new come.wrote left.0 status A B
          (keeps left.0 (subst (λ ps. Runs bytes (Told pairs) s ps left.0) next left.1))))

      pub meant_here : (status : Status) (new : Option (List ℕ)) (before now met : ℕ)
          → (outcome : Outcome) × Runs bytes (known_of held before now met) s (p ∷ drop (place + 1) statements) outcome × Ends outcome status mid new
          → (outcome : Outcome) × Runs bytes (known_of held before now met) first statements outcome × Ends outcome status old new
      meant_here status new before now met (outcome, runs, ends) = (
        lines_then come.lines outcome,
        come.whole before now met outcome (subst (λ ps. Runs bytes (known_of held before now met) s ps outcome) (sym next) runs),
        ends_after come.lines old mid new come.wrote outcome status ends,
      )

    -- the run ends after the last statement
    pub meant_last : (place : ℕ) (s : State) (old now : Option (List ℕ)) → HasCome place s old now → length statements ≤ place → (before absent met : ℕ)
        → (outcome : Outcome) × Runs bytes (known_of held before absent met) first statements outcome × Ends outcome Done old now
    meant_last place s old now come end before absent met = (
      lines_then come.lines done,
      come.whole before absent met done (subst (λ ps. Runs bytes (known_of held before absent met) s ps done) (sym (drop_all place statements end)) refl),
      (refl, subst (Appends old now) (ap concat (sym (append-nil come.lines))) come.wrote),
    )
