-- EndLemmas: checking the sums, and the result of the block.
use Rattle.std.proofs.Common.{◌≡◌, ℕ, ◌+◌, ◌<◌, List, length, Option, Some, None, Ok, Err, sym, ap, ◌∙◌, subst}
use Rattle.gq_frame.specs.declared.accums.Accums.{Accums}
use Rattle.gq_rules_typing.specs.Patterns.{by_number}
use Rattle.gq_rules_meaning.specs.Answers.{Gives, Faults, ◌>>=◌}
use Rattle.gq_rules_meaning.specs.Blocks as blocks
use Rattle.gq_rules_meaning.specs.Blocks.{Match, first_unfit, unless_unfit, fed_together, after_matches, slots_after}
use Rattle.gq_rules_meaning.specs.States as states
use Rattle.gq_plan_ir.specs.Reference.{Reference}
use Rattle.gq_frame.specs.Slots.{slots_are, AreSound}
use Rattle.gq_eval_context.specs.Viewed.{Over}
use Rattle.gq_eval_context.specs.declared.after.After.{After}
use Rattle.gq_eval_context.specs.declared.after.BlockFault.TheVariants as fault
use Rattle.gq_eval_context.specs.Answered.{after_is}
use Rattle.gq_exec_feed.specs.Feeding.{AreFed}
use Rattle.gq_exec_feed.proofs.FitLemmas.{fed_sound}
use Rattle.gq_workers.specs.declared.run.BlockProgress.{BlockProgress}
use Rattle.gq_workers.specs.Running.{gives_of, sources_of, targets_of}
use Rattle.gq_workers.specs.Results.{Leaves, IsJudged, IsOver, AreListed}
use Rattle.gq_workers.proofs.ListLemmas.{once, below, sources_below, targets_below}

-- the accumulators of the definitions, and which of them is out of range
module _ (run : BlockProgress) (o : Over) (ms : List Match) (h : IsOver o ms run) where
  unfit_is : (n : Option ℕ) → ((f : ℕ) → AreFed f run.accums → n ≡ first_unfit 0 (slots_are run.accums)) → first_unfit 0 (slots_after (gives_of ms) 0 (slots_are o.frame.accums)) ≡ n
  unfit_is n told = sym (told (1 + length (gives_of ms)) h.fed.after.fed ∙ ap (first_unfit 0) h.fed.after.after)

  abbrev left_of : List (states.Slot Reference) → blocks.After Reference
  left_of slots = record { slots = slots; sources = by_number (sources_of ms); targets = by_number (targets_of ms) }

  after_none_unfit : ((f : ℕ) → AreFed f run.accums → None ≡ first_unfit 0 (slots_are run.accums)) → after_matches (slots_are o.frame.accums) ms ≡ Gives (left_of (slots_are run.accums))
  after_none_unfit told =
      ap (λ n. unless_unfit n (slots_after (gives_of ms) 0 (slots_are o.frame.accums)) >>= λ fed. Gives (left_of fed)) (unfit_is None told) ∙ ap (λ l. Gives (left_of l)) (sym h.fed.after.after)

  after_unfit : (n : ℕ) → ((f : ℕ) → AreFed f run.accums → Some n ≡ first_unfit 0 (slots_are run.accums)) → after_matches (slots_are o.frame.accums) ms ≡ Faults (blocks.SumRange n)
  after_unfit n told = ap (λ u. unless_unfit u (slots_after (gives_of ms) 0 (slots_are o.frame.accums)) >>= λ fed. Gives (left_of fed)) (unfit_is (Some n) told)

  leaves : (a : After) → a.accums ≡ run.accums → ((f : ℕ) → AreFed f run.accums → None ≡ first_unfit 0 (slots_are run.accums)) → AreListed run.found (a.sources, a.targets) → Leaves o a
  leaves a same told listed = record {
    slots = ap (λ (x : Accums). x.slots) same ∙ h.fed.after.slots;
    sound = subst AreSound (sym same) (fed_sound (1 + length (gives_of ms)) run.accums h.fed.after.fed (sym (told (1 + length (gives_of ms)) h.fed.after.fed)));
    sources = subst (Rattle.std.specs.List.All (λ v. v < length o.vertices)) (sym sources) (below (sources_of ms) (length o.vertices) (sources_below (length o.vertices) ms h.fed.within));
    sources_once = subst (Rattle.std.specs.List.IsDistinct Rattle.std.specs.Prelude.nat_eq) (sym sources) (once (sources_of ms) (length o.vertices) (sources_below (length o.vertices) ms h.fed.within));
    targets = subst (Rattle.std.specs.List.All (λ v. v < length o.vertices)) (sym targets) (below (targets_of ms) (length o.vertices) (targets_below (length o.vertices) ms h.fed.within));
    targets_once = subst (Rattle.std.specs.List.IsDistinct Rattle.std.specs.Prelude.nat_eq) (sym targets) (once (targets_of ms) (length o.vertices) (targets_below (length o.vertices) ms h.fed.within));
  }
    where
      sources : a.sources ≡ by_number (sources_of ms)
      sources = listed.sources (sources_of ms) h.sources

      targets : a.targets ≡ by_number (targets_of ms)
      targets = listed.targets (targets_of ms) h.targets

  answered : (a : After) → a.accums ≡ run.accums → ((f : ℕ) → AreFed f run.accums → None ≡ first_unfit 0 (slots_are run.accums)) → AreListed run.found (a.sources, a.targets) → after_matches (slots_are o.frame.accums) ms ≡ Gives (after_is a)
  answered a same told listed = after_none_unfit told ∙ ap Gives (made (slots_are run.accums) (ap slots_are (sym same)) (listed.sources (sources_of ms) h.sources) (listed.targets (targets_of ms) h.targets))
    where
      made : (l : List (states.Slot Reference)) → l ≡ slots_are a.accums → a.sources ≡ by_number (sources_of ms) → a.targets ≡ by_number (targets_of ms) → left_of l ≡ after_is a
      made l e p q = λ i. record { slots = e i; sources = sym p i; targets = sym q i }

-- ---- in the steps of the code

pub judged_fit : (run : BlockProgress) (a : After) → a.accums ≡ run.accums → ((f : ℕ) → AreFed f run.accums → None ≡ first_unfit 0 (slots_are run.accums)) → AreListed run.found (a.sources, a.targets) → IsJudged run (Ok a)
judged_fit run a same told listed = record {
  answered = λ o ms h. answered run o ms h a same told listed;
  left = λ o ms h. leaves run o ms h a same told listed;
}

pub judged_unfit : (run : BlockProgress) (n slot : ℕ) → ((f : ℕ) → AreFed f run.accums → Some n ≡ first_unfit 0 (slots_are run.accums)) → slot ≡ n → IsJudged run (Err (fault.SumRange slot))
judged_unfit run n slot told e = record { answered = λ o ms h. after_unfit run o ms h n told ∙ ap (λ (m : ℕ). Faults (blocks.SumRange m)) (sym e); left = λ o ms h. tt }

pub judged_memory : (run : BlockProgress) → IsJudged run (Err fault.OutOfMemory)
judged_memory run = record { answered = λ o ms h. tt; left = λ o ms h. tt }

pub ruleset judge_laws = (judged_fit, judged_unfit, judged_memory)
