-- How a job goes from one LOAD to the next, and what remains if it breaks off; given the listing, it has one effect.
use Rattle.std.proofs.Common.{◌≡◌, ℕ, zero, suc, ◌+◌, ◌-◌, ◌<◌, ◌≤◌, List, [], ◌∷◌, ◌++◌, ◌⊎◌, Option, inl, inr, refl, ap, sym, ◌∙◌, subst, arith}
use Rattle.std.proofs.Math.Nat.{eq-or-lt_of_le}
use Rattle.gq_io.specs.Listing.{Listing}
use Rattle.gq_diagnostics.specs.declared.refusal.StatementFault.{StatementFault}
use Rattle.gq_diagnostics.specs.declared.refusal.StatementFault.TheVariants as fault
use Rattle.gq_load_run.specs.declared.lines.FileReport.{FileReport}
use Rattle.gq_load_run.specs.Reports.{report_text}
use Rattle.gq_diagnostics.specs.Effects.{Effect, Becomes}
use Rattle.gq_io.specs.Known.{Known, Told, Answer, Absent, TooLong, Bytes, MayAnswer, known_of}
use Rattle.gq_load_run.specs.declared.place.LoadPath.{LoadPath}
use Rattle.gq_load_run.specs.declared.place.LoadPath.TheVariants.{At, Nowhere}
use Rattle.gq_load_run.specs.Loads.{Loaded, Loads, Fails, report_of, Continues, AnswerLoads, PlaceLoads, LoadsMean}
use Rattle.gq_load_run.specs.Remains.{Ends, LeadTo, BreaksOff, Remains}

-- ---- if the listing of the files is given, a job has one effect

module _ {S : Type 0} (place_of : ℕ → LoadPath) (loaded_by : S → ℕ → List ℕ → Loaded S) (pairs : Listing) where
  module _ (e f : Effect S) (E F : S → List FileReport → Type 0) (rest : (t : S) (more : List FileReport) → E t more → F t more → e ≡ f) (s : S) (number : ℕ) (reports : List FileReport) where
    same_loaded : (path : List ℕ) (loaded : Loaded S) → Continues place_of loaded_by (Told pairs) path reports loaded E e → Continues place_of loaded_by (Told pairs) path reports loaded F f → e ≡ f
    same_loaded path (Loads t counts) a b = rest t (reports ++ report_of path counts ∷ []) a b
    same_loaded path (Fails r) a b = a ∙ sym b

    same_answer : (path : List ℕ) (answer : Answer) → AnswerLoads place_of loaded_by (Told pairs) s number path reports answer E e → AnswerLoads place_of loaded_by (Told pairs) s number path reports answer F f → e ≡ f
    same_answer path Absent a b = a ∙ sym b
    same_answer path TooLong a b = a ∙ sym b
    same_answer path (Bytes bytes) a b = same_loaded path (loaded_by s number bytes) a b

    same_place : (place : LoadPath) → PlaceLoads place_of loaded_by (Told pairs) s number reports place E e → PlaceLoads place_of loaded_by (Told pairs) s number reports place F f → e ≡ f
    same_place (Nowhere name) a b = a ∙ sym b
    same_place (At path) (answer, may, loads) (other, might, otherwise) =
        same_answer path answer loads (subst (λ o. AnswerLoads place_of loaded_by (Told pairs) s number path reports o F f) (might ∙ sym may) otherwise)

  -- if the listing of the files is given, `left` LOADs have one effect
  pub loads_determined : (s : S) (number left : ℕ) (reports : List FileReport) (e f : Effect S)
      → LoadsMean place_of loaded_by (Told pairs) s number left reports e → LoadsMean place_of loaded_by (Told pairs) s number left reports f → e ≡ f
  loads_determined s number zero reports e f a b = a ∙ sym b
  loads_determined s number (suc left) reports e f a b =
      same_place e f (λ t more. LoadsMean place_of loaded_by (Told pairs) t (number + 1) left more e) (λ t more. LoadsMean place_of loaded_by (Told pairs) t (number + 1) left more f)
      (λ t more x y. loads_determined t (number + 1) left more e f x y) s number reports (place_of number) a b

-- ---- one LOAD

module _ {S : Type 0} (place_of : ℕ → LoadPath) (loaded_by : S → ℕ → List ℕ → Loaded S) (known : Known) (s : S) (number : ℕ) (left : ℕ) (reports : List FileReport) where
  abbrev Rest : Effect S → S → List FileReport → Type 0
  Rest effect t more = LoadsMean place_of loaded_by known t (number + 1) left more effect

  at_place : (place : LoadPath) (effect : Effect S) → place ≡ place_of number → PlaceLoads place_of loaded_by known s number reports place (Rest effect) effect → LoadsMean place_of loaded_by known s number (suc left) reports effect
  at_place place effect is loads = subst (λ p. PlaceLoads place_of loaded_by known s number reports p (Rest effect) effect) is loads

  pub unread : (path : List ℕ) → At path ≡ place_of number → (answer : Answer) → MayAnswer known path answer → (effect : Effect S)
      → AnswerLoads place_of loaded_by known s number path reports answer (Rest effect) effect → LoadsMean place_of loaded_by known s number (suc left) reports effect
  unread path is answer may effect loads = at_place (At path) effect is (answer, may, loads)

-- ---- a part of the LOADs

pub one_left : (count number : ℕ) → number < count → count - number ≡ suc (count - (number + 1))
one_left count number below = omega arith

pub none_left : (count number : ℕ) → count ≤ number → count - number ≡ 0
none_left count number end = omega arith

module _ {S : Type 0} (place_of : ℕ → LoadPath) (loaded_by : S → ℕ → List ℕ → Loaded S) (held : Option Listing) (first : S) (count : ℕ) where
  -- before the LOAD with this number: the meaning of the rest gives that of the whole job, and the LOADs before it
  -- ended
  pub record HasLoaded (number : ℕ) (s : S) (reports : List FileReport) : Type 0 where
    pub whole : (before now met : ℕ) (effect : Effect S)
        → LoadsMean place_of loaded_by (known_of held before now met) s number (count - number) reports effect
        → LoadsMean place_of loaded_by (known_of held before now met) first 0 count [] effect
    pub ended : (before now met : ℕ) → LeadTo place_of loaded_by (known_of held before now met) first number s

  pub loaded_none : HasLoaded 0 first []
  loaded_none =
      let all : count - 0 ≡ count = omega arith in
      record {
        whole = λ before now met effect loads. subst (λ n. LoadsMean place_of loaded_by (known_of held before now met) first 0 n [] effect) all loads;
        ended = λ before now met. refl;
      }

  module _ (number : ℕ) (s : S) (reports : List FileReport) (come : HasLoaded number s reports) where
    -- and the LOAD with this number ends
    pub one_more : (t : S) (before now met : ℕ) → Ends place_of loaded_by (known_of held before now met) s number t
        → LeadTo place_of loaded_by (known_of held before now met) first (number + 1) t
    one_more t before now met ends =
        let next : suc number ≡ number + 1 = omega arith in
        let P : ℕ → Type 0 = λ n. LeadTo place_of loaded_by (known_of held before now met) first n t in
        subst P next (s, come.ended before now met, ends)

    module _ (below : number < count) where
      pub loaded_next : (t : S) (report : FileReport)
          → ((before now met : ℕ) (left : ℕ) (more : List FileReport) (effect : Effect S)
          → LoadsMean place_of loaded_by (known_of held before now met) t (number + 1) left (more ++ report ∷ []) effect
          → LoadsMean place_of loaded_by (known_of held before now met) s number (suc left) more effect)
          → ((before now met : ℕ) → Ends place_of loaded_by (known_of held before now met) s number t)
          → HasLoaded (number + 1) t (reports ++ report ∷ [])
      loaded_next t report means ends = record {
        whole = λ before now met effect loads.
            come.whole before now met effect (subst (λ n. LoadsMean place_of loaded_by (known_of held before now met) s number n reports effect) (sym (one_left count number below))
            (means before now met (count - (number + 1)) reports effect loads));
        ended = λ before now met. one_more t before now met (ends before now met);
      }

      pub refused_here : (before now met : ℕ) (effect : Effect S)
          → ((left : ℕ) (more : List FileReport) → LoadsMean place_of loaded_by (known_of held before now met) s number (suc left) more effect)
          → LoadsMean place_of loaded_by (known_of held before now met) first 0 count [] effect
      refused_here before now met effect means =
          come.whole before now met effect (subst (λ n. LoadsMean place_of loaded_by (known_of held before now met) s number n reports effect) (sym (one_left count number below)) (means (count - (number + 1)) reports))

    pub loaded_all : count ≤ number → (before now met : ℕ) (line : List ℕ) → line ≡ report_text reports
        → LoadsMean place_of loaded_by (known_of held before now met) first 0 count [] (Becomes s (line ∷ []))
    loaded_all end before now met line is =
        come.whole before now met (Becomes s (line ∷ []))
        (subst (λ n. LoadsMean place_of loaded_by (known_of held before now met) s number n reports (Becomes s (line ∷ []))) (sym (none_left count number end))
        (ap (λ l. Becomes s (l ∷ [])) is))

-- ---- what remains

module _ {S : Type 0} (place_of : ℕ → LoadPath) (loaded_by : S → ℕ → List ℕ → Loaded S) (Leaves : S → ℕ → List ℕ → StatementFault → S → Type 0) (known : Known) (first : S) (count : ℕ) where
  -- the LOAD with this number breaks the job off
  pub broken_here : (number : ℕ) (s t : S) (f : StatementFault) → number < count → LeadTo place_of loaded_by known first number s
      → BreaksOff place_of loaded_by Leaves known s number f t → Remains place_of loaded_by Leaves known first count f t
  broken_here number s t (fault.Refused r) below ended breaks = (number, s, below, ended, breaks)
  broken_here number s t fault.ReadFault below ended breaks = (number, s, below, ended, breaks)
  broken_here number s t fault.OutOfMemory below ended breaks = inl (number, s, below, ended, breaks)

  -- memory runs out between two LOADs, or after all of them
  pub stands_here : (number : ℕ) (s : S) → number ≤ count → LeadTo place_of loaded_by known first number s → Remains place_of loaded_by Leaves known first count fault.OutOfMemory s
  stands_here number s low ended = by (eq-or-lt_of_le low)
    where
      by : (number ≡ count) ⊎ (number < count) → Remains place_of loaded_by Leaves known first count fault.OutOfMemory s
      by (inl same) = let P : ℕ → Type 0 = λ n. LeadTo place_of loaded_by known first n s in inr (subst P same ended)
      by (inr below) = inl (number, s, below, ended, inl refl)
