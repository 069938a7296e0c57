-- FedLaws: accumulators that are fed all inputs at once keep fitting, if their sums are in range.
use Rattle.std.proofs.Common.{◌≡◌, ℕ, zero, suc, ◌+◌, Bool, true, false, List, [], ◌∷◌, length, arith, Option, Some, None, refl, sym, ◌∙◌, subst}
use Rattle.std.specs.Prelude.{◌&&◌, ◌==◌, if◌then◌else◌, slice_get}
use Rattle.std.specs.List.{list_all}
use Rattle.gq_value.specs.Accums.{Accum}
use Rattle.gq_accum_laws.specs.Holds.{Holds}
use Rattle.gq_accum_laws.specs.After.{after}
use Rattle.gq_accum_laws.specs.Fits.{fits}
use Rattle.gq_accum_laws.proofs.ProperLaws.{proper_after}
use Rattle.gq_rules_meaning.specs.Expressions.{World}
use Rattle.gq_rules_meaning.specs.States.{Slot}
use Rattle.gq_rules_meaning.specs.Blocks.{BlockFault, Contribution, inputs_to, contents_after, slots_after, first_unfit, unless_unfit, fed_together}
use Rattle.gq_rules_meaning.specs.Fitting.{Safe}
use Rattle.gq_rules_meaning.specs.StateFits.{ContentFits, InputFits, AllOf}
use Rattle.gq_rules_meaning.specs.Laws.{Contributes}
use Rattle.gq_rules_meaning.proofs.AnswerLaws.{and_ok, some_inj}
use Rattle.gq_rules_meaning.proofs.ValueLaws.{same_number}
use Rattle.gq_rules_meaning.proofs.AfterLaws.{after_holds}
use Rattle.gq_rules_safety.proofs.NameLaws.{all_with}
use Rattle.gq_rules_safety.proofs.SlotLaws.{SlotKeeps, Keeps}

module _ {N : Type 0} (world : World N) where
  -- an input to this accumulator is one that its kind takes
  abbrev Feeds : Accum → ℕ → Contribution → Type 0
  Feeds k n x = x.slot ≡ n → InputFits world k x.input

  inputs_fit : (k : Accum) (n v : ℕ) (xs : List Contribution) → AllOf (Feeds k n) xs → AllOf (InputFits world k) (inputs_to n v xs)
  inputs_fit k n v [] h = tt
  inputs_fit k n v (x ∷ xs) h = go (x.slot == n) refl (x.vertex == v) (inputs_fit k n v xs h.1)
    where
      go : (p : Bool) → (x.slot == n) ≡ p → (q : Bool) → AllOf (InputFits world k) (inputs_to n v xs) → AllOf (InputFits world k) (if p && q then x.input ∷ inputs_to n v xs else inputs_to n v xs)
      go true e true rest = (h.0 (same_number x.slot n e), rest)
      go true e false rest = rest
      go false e q rest = rest

  contents_count : (k : Accum) (n : ℕ) (xs : List Contribution) (v : ℕ) (cs : List (Holds k)) → length (contents_after k n xs v cs) ≡ length cs
  contents_count k n xs v [] = refl
  contents_count k n xs v (c ∷ cs) = let r = contents_count k n xs (suc v) cs in omega (arith, r)

  contents_fit : (k : Accum) (n : ℕ) (xs : List Contribution) (v : ℕ) (cs : List (Holds k)) → AllOf (Feeds k n) xs → ((i : ℕ) (c : Holds k) → slice_get cs i ≡ Some c → ContentFits world k c) → list_all (fits k) (contents_after k n xs v cs) ≡ true
      → (i : ℕ) (c : Holds k) → slice_get (contents_after k n xs v cs) i ≡ Some c → ContentFits world k c
  contents_fit k n xs v [] f old h i c e = cc
  contents_fit k n xs v (d ∷ cs) f old h zero c e =
      let w = and_ok (fits k (after k d (inputs_to n v xs))) _ h in let o = old 0 d refl in
      subst (ContentFits world k) (some_inj e) (record { values = after_holds world k d (inputs_to n v xs) o.values (inputs_fit k n v xs f); fit = w.0; proper = proper_after k d (inputs_to n v xs) o.proper })
  contents_fit k n xs v (d ∷ cs) f old h (suc i) c e = contents_fit k n xs (suc v) cs f (λ j. old (suc j)) (and_ok (fits k (after k d (inputs_to n v xs))) _ h).1 i c e

  slot_fed : (n : ℕ) (xs : List Contribution) (s : Slot N) → AllOf (Feeds s.kind n) xs → list_all (fits s.kind) (contents_after s.kind n xs 0 s.contents) ≡ true → SlotKeeps world s (record s { contents = contents_after s.kind n xs 0 s.contents })
  slot_fed n xs s f h = record {
    name = refl;
    kind = refl;
    fit = λ k attached g. record {
      kind = g.kind;
      attaches = g.attaches;
      count = contents_count s.kind n xs 0 s.contents ∙ g.count;
      contents = λ i c e. contents_fit s.kind n xs 0 s.contents f g.contents h i c e;
    };
  }

  -- inputs to accumulators from number n on
  abbrev From : ℕ → List (Slot N) → Contribution → Type 0
  From n ss x = (i : ℕ) (slot : Slot N) → slice_get ss i ≡ Some slot → x.slot ≡ n + i → InputFits world slot.kind x.input

  slots_fed : (xs : List Contribution) (n : ℕ) (ss : List (Slot N)) → AllOf (From n ss) xs → first_unfit n (slots_after xs n ss) ≡ None → Keeps world ss (slots_after xs n ss)
  slots_fed xs n [] f h = tt
  slots_fed xs n (s ∷ ss) f h = go (list_all (fits s.kind) (contents_after s.kind n xs 0 s.contents)) refl h (slots_fed xs (suc n) ss (all_with (From n (s ∷ ss)) (From (suc n) ss) xs (λ x g. λ i slot e d. g (suc i) slot e (omega (arith, d))) f))
    where
      go : (b : Bool) → list_all (fits s.kind) (contents_after s.kind n xs 0 s.contents) ≡ b → (if b then first_unfit (suc n) (slots_after xs (suc n) ss) else Some n) ≡ None
          → (first_unfit (suc n) (slots_after xs (suc n) ss) ≡ None → Keeps world ss (slots_after xs (suc n) ss))
          → Keeps world (s ∷ ss) ((record s { contents = contents_after s.kind n xs 0 s.contents }) ∷ slots_after xs (suc n) ss)
      go true e h rest = (slot_fed n xs s (all_with (From n (s ∷ ss)) (Feeds s.kind n) xs (λ x g. λ d. g 0 s refl (omega (arith, d))) f) e, rest h)
      go false e h rest = cc

  pub fed_safe : (xs : List Contribution) (slots : List (Slot N)) → AllOf (Contributes world slots) xs → Safe (Keeps world slots) (fed_together xs slots)
  fed_safe xs slots f = go (first_unfit 0 (slots_after xs 0 slots)) refl
    where
      all : AllOf (From 0 slots) xs
      all = all_with (Contributes world slots) (From 0 slots) xs (λ x g. λ i slot e d. g slot (subst (λ n. slice_get slots n ≡ Some slot) (sym (plain x.slot i d)) e)) f
        where
          plain : (m i : ℕ) → m ≡ 0 + i → m ≡ i
          plain m i d = omega (arith, d)

      go : (o : Option ℕ) → first_unfit 0 (slots_after xs 0 slots) ≡ o → Safe {F = BlockFault} (Keeps world slots) (unless_unfit o (slots_after xs 0 slots))
      go None e = slots_fed xs 0 slots all e
      go (Some n) e = tt
