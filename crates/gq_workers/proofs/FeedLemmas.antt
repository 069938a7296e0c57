-- FeedLemmas: feeding the inputs that wait.
use Rattle.std.proofs.Common.{◌≡◌, ℕ, suc, ◌+◌, ◌^◌, ◌<◌, ◌≤◌, List, [], ◌∷◌, ◌++◌, map, length, slice_get, Some, refl, sym, ap, ◌∙◌, subst, arith, length-append}
use Rattle.std.specs.List.{All}
use Rattle.std.proofs.lemmas.List.Elements.{All-nil}
use Rattle.gq_value.specs.declared.kind.Input.{Input}
use Rattle.gq_frame.specs.declared.slots.Slots.{Slots}
use Rattle.gq_frame.specs.declared.accums.Accums.{Accums}
use Rattle.gq_frame.specs.Targets.{ShowTheSame}
use Rattle.gq_rules_meaning.specs.Blocks.{Contribution, Match}
use Rattle.gq_frame.specs.Slots.{AreSound}
use Rattle.gq_eval_context.specs.Viewed.{Over}
use Rattle.gq_exec_source.specs.Starts.{IsWithin}
use Rattle.gq_exec_feed.specs.Taking.{MayTake, as_given, targeted, AreBatched}
use Rattle.gq_exec_feed.specs.Feeding.{AreAfter, TakesBatch}
use Rattle.gq_exec_feed.proofs.FeedLemmas.{none_after}
use Rattle.gq_exec_feed.proofs.FitLemmas.{sound_fed}
use Rattle.gq_exec_contribute.specs.Scalars.{as_inputs}
use Rattle.gq_workers.specs.Running.{gives_of, Wait, AreFedTo, FedFrom}
use Rattle.gq_exec_contribute.proofs.ScalarLemmas.{joined, both_taken}
use Rattle.gq_exec_feed.proofs.CopyLemmas.{copied}
use Rattle.gq_workers.proofs.FoundLemmas.{flat_append, all_append}
use Rattle.gq_exec_contribute.specs.declared.scalars.ScalarInput.{ScalarInput}

-- ---- a copy

pub none_fed : (o : Over) (a : Accums) → AreSound o.frame.accums → a.slots ≡ o.frame.accums.slots → ShowTheSame o.frame.accums.contents a.contents → AreFedTo o [] a 0
none_fed o a sound slots same = let c = copied o.frame.accums a sound slots same in record {
  after = record { slots = slots; after = c.0 ∙ (none_after 1 o.frame.accums (sound_fed o.frame.accums sound)).after; fed = c.1 };
  counted = refl;
  within = All-nil (λ (m : Match). IsWithin (length o.vertices) m.candidate);
}

-- ---- batches

length_batched : (slots : Slots) (xs : List Contribution) (batch : List (ℕ × Input)) → AreBatched slots xs batch → length xs ≡ length batch
length_batched slots [] [] h = refl
length_batched slots [] (b ∷ batch) h = absurd (cc h)
length_batched slots (x ∷ xs) [] h = absurd (cc h)
length_batched slots (x ∷ xs) (b ∷ batch) h = let t : map as_given batch ≡ map (targeted slots) xs = cc h in ap suc (length_batched slots xs batch t)

long_ints : (xs : List (ℕ × ScalarInput)) → length (as_inputs xs) ≡ length xs
long_ints [] = refl
long_ints (x ∷ xs) = ap suc (long_ints xs)

first_of : {A : Type 0} {a b : A} → Some a ≡ Some b → a ≡ b
first_of h = cc

pub feeds_all : (old mid new : Accums) (fed now : ℕ) (batches : List (List (ℕ × Input))) (batch : List (ℕ × Input)) (ints : List (ℕ × ScalarInput)) → slice_get batches 0 ≡ Some batch → TakesBatch old mid batch → TakesBatch mid new (as_inputs ints)
    → now ≡ fed + length batch + length ints → fed ≤ 1152921504606846975 → length batch ≤ 1152921504606846975 → length ints ≤ 1152921504606846975 → FedFrom old new fed batches ints now
feeds_all old mid new fed now batches batch ints at first second counted few_fed few_batch few_ints = record { each = more }
  where
    takes : TakesBatch old new (batch ++ as_inputs ints)
    takes = both_taken old mid new batch (as_inputs ints) first second

    more : (o : Over) (ms ns : List Match) → AreFedTo o ms old fed → Wait o ns batches ints → AreFedTo o (ms ++ ns) new now
    more o ms ns h w =
        let same : w.batch ≡ batch = first_of (sym (ap (λ (l : List (List (ℕ × Input))). slice_get l 0) w.waiting) ∙ at) in
        let batched : AreBatched o.frame.accums.slots (gives_of ns) (batch ++ as_inputs ints) = subst (λ (b : List (ℕ × Input)). AreBatched o.frame.accums.slots (gives_of ns) (b ++ as_inputs ints)) same w.batched in
        let long = length_batched o.frame.accums.slots (gives_of ns) (batch ++ as_inputs ints) batched in let two = length-append batch (as_inputs ints) in let m = long_ints ints in let c = h.counted in
        let later = takes.each (1 + length (gives_of ms)) (gives_of ns) h.after.fed (omega (arith, long, two, m, c, few_fed, few_batch, few_ints)) (subst (λ (q : Slots). All (MayTake q) (gives_of ns)) (sym h.after.slots) w.may) (subst (λ (q : Slots). AreBatched q (gives_of ns) (batch ++ as_inputs ints)) (sym h.after.slots) batched) in
        let l = length-append (gives_of ms) (gives_of ns) in let f = flat_append ms ns in record {
          after = subst (AreAfter 1 o.frame.accums new) (sym f) (joined 1 o.frame.accums old new (gives_of ms) (gives_of ns) h.after later);
          counted = counted ∙ (let e : fed + length batch + length ints ≡ length (gives_of ms ++ gives_of ns) = omega (arith, l, c, long, two, m) in e) ∙ ap length (sym f);
          within = all_append (λ (x : Match). IsWithin (length o.vertices) x.candidate) ms ns h.within w.within;
        }

pub ruleset feed_laws = (feeds_all)
