-- FeedingLemmas: the waiting inputs are fed, and the accumulators are checked.
use Rattle.std.proofs.Common.{◌≡◌, ℕ, ◌+◌, ◌-◌, ◌^◌, ◌<◌, ◌≤◌, List, [], ◌∷◌, map, length, Option, Some, None, Result, Ok, Err, refl, sym, ap, ap₂, subst, ◌∙◌, arith, length-append}
use Rattle.std.specs.List.{All}
use Rattle.std.specs.Prelude.{IfOk}
use Rattle.std.proofs.lemmas.List.Elements.{All-nil, All-cons, All-head, All-tail}
use Rattle.std.proofs.lemmas.List.{length-map}
use Rattle.gq_value.specs.declared.kind.Input.{Input}
use Rattle.gq_value.specs.Accums.{Given}
use Rattle.gq_value.specs.AccumViews.{given}
use Rattle.gq_rules_meaning.specs.Answers.{Answer, Gives}
use Rattle.gq_rules_meaning.specs.Blocks.{BlockFault, Contribution, fed_together, first_unfit, unless_unfit}
use Rattle.gq_rules_meaning.specs.States as states
use Rattle.gq_plan_ir.specs.Reference.{Reference}
use Rattle.gq_frame.specs.declared.accums.Accums.{Accums}
use Rattle.gq_frame.specs.declared.slots.Slots.{Slots}
use Rattle.gq_frame.specs.Slots.{AreSound, slots_are}
use Rattle.gq_exec_feed.specs.Feeding.{AreAfter, AreFed, TakesBatch}
use Rattle.gq_exec_feed.specs.Taking.{AreBatched, MayTake}
use Rattle.gq_exec_feed.proofs.FitLemmas.{fed_sound, sound_fed}
use Rattle.gq_eval_context.specs.declared.after.BlockFault as code
use Rattle.gq_eval_context.specs.declared.after.BlockFault.TheVariants as fault
use Rattle.gq_eval_context.specs.Answered.{Answered}
use Rattle.gq_exec_contribute.specs.Scalars.{as_input, as_inputs}
use Rattle.gq_exec_contribute.proofs.ScalarLemmas.{both_taken}
use Rattle.gq_exec_post.specs.declared.waiting.Waiting.{Waiting}
use Rattle.gq_exec_post.specs.Feeding.{AreAllFed, IsJudged, UnfitSo}
use Rattle.gq_exec_post.specs.Waiting.{IsTaken, batch_of, contribution_of, waiting_are}
use Rattle.gq_exec_post.specs.Writing.{KeepsTo}

-- ---- fed and checked

abbrev given_so : List (states.Slot Reference) → Answer BlockFault (List (states.Slot Reference))
given_so slots = Gives slots

all_may : (slots : Slots) (xs : List (ℕ × Input)) → All (IsTaken slots) xs → All (MayTake slots) (map (contribution_of slots) xs)
all_may slots [] t = All-nil (MayTake slots)
all_may slots (x ∷ xs) t = All-cons (MayTake slots) (contribution_of slots x) (map (contribution_of slots) xs) (All-head (IsTaken slots) x xs t).may (all_may slots xs (All-tail (IsTaken slots) x xs t))

batched : (slots : Slots) (xs : List (ℕ × Input)) → All (IsTaken slots) xs → AreBatched slots (map (contribution_of slots) xs) xs
batched slots [] t = refl
batched slots (x ∷ xs) t = ap₂ (λ (n : ℕ) (rest : List (ℕ × Given)). (n, given x.1) ∷ rest) (sym (All-head (IsTaken slots) x xs t).number) (batched slots xs (All-tail (IsTaken slots) x xs t))

-- as few inputs as either count allows, one batch after the other
pub all_fed : (old mid new : Accums) (w : Waiting) (others : List (ℕ × Input)) → length w.ints ≤ 2 ^ 60 - 1 → length w.others ≤ 2 ^ 60 - 1 → TakesBatch old mid (as_inputs w.ints) → others ≡ w.others → TakesBatch mid new others → AreAllFed old new w
all_fed old mid new w others few also one same two = record {
  few = let l = length-append (as_inputs w.ints) w.others in let m : length (as_inputs w.ints) ≡ length w.ints = length-map w.ints as_input in omega (arith, l, m, few, also);
  takes = both_taken old mid new (as_inputs w.ints) w.others one (subst (TakesBatch mid new) same two);
}

module _ (old new : Accums) (w : Waiting) (sound : AreSound old) (taken : All (IsTaken old.slots) (batch_of w)) (fed : AreAllFed old new w) where
  abbrev ws : List Contribution
  ws = waiting_are old.slots w

  short : 1 + length ws < 2 ^ 62
  short = let h : length ws ≡ length (batch_of w) = length-map (batch_of w) (contribution_of old.slots) in let f = fed.few in omega (arith, h, f)

  after : AreAfter 1 old new ws
  after = fed.takes.each 1 ws (sound_fed old sound) short (all_may old.slots (batch_of w) taken) (batched old.slots (batch_of w) taken)

  judges : (r : Result Accums code.BlockFault) → IsJudged new r → UnfitSo new (first_unfit 0 (slots_are new)) r
  judges r j = j.each (1 + length ws) after.fed

  together : fed_together ws (slots_are old) ≡ unless_unfit (first_unfit 0 (slots_are new)) (slots_are new)
  together = ap (λ slots. unless_unfit (first_unfit 0 slots) slots) (sym after.after)

  by_unfit : (o : Option ℕ) (r : Result Accums code.BlockFault) → UnfitSo new o r → Answered slots_are (unless_unfit o (slots_are new)) r
  by_unfit o (Ok b) h = ap (λ o. unless_unfit o (slots_are new)) h.0 ∙ ap (λ a. given_so (slots_are a)) (sym h.1)
  by_unfit o (Err (fault.SumRange n)) h = ap (λ o. unless_unfit o (slots_are new)) h
  by_unfit o (Err (fault.Eval at w)) h = absurd h
  by_unfit o (Err fault.Stuck) h = absurd h
  by_unfit o (Err fault.OutOfMemory) h = tt

  pub fed_is : (r : Result Accums code.BlockFault) → IsJudged new r → Answered slots_are (fed_together ws (slots_are old)) r
  fed_is r j = subst (λ o. Answered slots_are o r) (sym together) (by_unfit (first_unfit 0 (slots_are new)) r (judges r j))

  pub fed_keeps : (r : Result Accums code.BlockFault) → IsJudged new r → IfOk r (KeepsTo old)
  fed_keeps (Ok b) j = subst (KeepsTo old) (sym (judges (Ok b) j).1) (record { sound = fed_sound (1 + length ws) new after.fed (judges (Ok b) j).0; slots = after.slots })
  fed_keeps (Err e) j = tt

pub judged_fits : (a : Accums) → ((f : ℕ) → AreFed f a → None ≡ first_unfit 0 (slots_are a)) → IsJudged a (Ok a)
judged_fits a told = record { each = λ f h. (sym (told f h), refl) }

pub judged_unfit : (a : Accums) (n slot : ℕ) → ((f : ℕ) → AreFed f a → Some n ≡ first_unfit 0 (slots_are a)) → slot ≡ n → IsJudged a (Err (fault.SumRange slot))
judged_unfit a n slot told s = record { each = λ f h. sym (told f h) ∙ ap Some (sym s) }

pub judged_memory : (a : Accums) → IsJudged a (Err fault.OutOfMemory)
judged_memory a = record { each = λ f h. tt }

pub ruleset judged_laws = (judged_fits, judged_unfit, judged_memory)
