-- WaitLemmas: an input to a global accumulator, which waits for the end of the phase.
use Rattle.std.proofs.Common.{◌≡◌, ℕ, List, ◌++◌, Option, Some, None, Result, Ok, Err, slice_get, sym, ap, subst, ◌∙◌}
use Rattle.std.specs.Option.{option_map}
use Rattle.gq_value.specs.declared.kind.Input.{Input}
use Rattle.gq_value.specs.declared.kind.Slot.{Slot}
use Rattle.gq_value.specs.declared.value.Wrong.{Wrong}
use Rattle.gq_value.specs.Accums.{Given}
use Rattle.gq_value.specs.AccumViews.{accum_of, given}
use Rattle.gq_rules_typing.specs.Selecting as plain
use Rattle.gq_rules_typing.specs.Selecting.{Adds}
use Rattle.gq_rules_meaning.specs.Answers.{Answer, Gives, Stuck, ◌>>=◌, blaming, found}
use Rattle.gq_rules_meaning.specs.Blocks.{BlockFault, AtPlace, Contribution, contributed, input_of}
use Rattle.gq_rules_meaning.specs.Calendars.{Calendar}
use Rattle.gq_rules_meaning.specs.Expressions.{Look}
use Rattle.gq_rules_meaning.specs.Posts.{Post, Written, feed}
use Rattle.gq_rules_meaning.specs.States as states
use Rattle.gq_rules_meaning.specs.States.{slot_named}
use Rattle.gq_plan_ir.specs.Reference as reference
use Rattle.gq_plan_ir.specs.Reference.{Reference}
use Rattle.gq_plan_ir.specs.References.{same}
use Rattle.gq_frame.specs.declared.accums.Accums.{Accums}
use Rattle.gq_eval_operand.specs.declared.halt.Halt.{Halt}
use Rattle.gq_eval_operand.specs.declared.halt.Halt.TheVariants as halt
use Rattle.gq_eval_operand.specs.Meant.{Halts, Tells}
use Rattle.gq_frame.specs.Names.{Placed}
use Rattle.gq_frame.specs.Slots.{slots_are}
use Rattle.gq_frame.proofs.SlotLemmas.{number_there, named_some}
use Rattle.gq_eval_context.specs.Viewed.{Over}
use Rattle.gq_eval_context.specs.declared.after.BlockFault as code
use Rattle.gq_eval_context.specs.Answered.{EndsAs}
use Rattle.gq_eval_context.specs.declared.after.BlockFault.TheVariants as fault
use Rattle.gq_exec_post.specs.declared.waiting.Waiting.{Waiting}
use Rattle.gq_exec_post.specs.declared.writing.Writing.{Writing}
use Rattle.gq_eval_context.specs.Faults.{fault_at}
use Rattle.gq_exec_post.specs.Sights.{DoesSo, SeesSo, look_now, one_waiting}
use Rattle.gq_exec_post.specs.Waiting.{IsQueued, waiting_are}
use Rattle.gq_exec_post.specs.Writing.{AreTaken, written}
use Rattle.gq_eval_context.proofs.FaultLemmas.{stops_at}
use Rattle.gq_exec_post.proofs.ActLemmas.{keeps_itself}
use Rattle.gq_exec_post.proofs.QueueLemmas.{all_taken, waiting_more}

-- ---- the input

abbrev one_more : ℕ → Given → Answer Wrong (List Contribution)
one_more n y = Gives (one_waiting n y)

abbrev of_slot : Look Reference → plain.Input Reference → ℕ → Option (states.Slot Reference) → Answer Wrong (List Contribution)
of_slot look x n o = found o >>= λ s. input_of look s.kind x >>= one_more n

module _ (look : Look Reference) (a : Accums) (n : ℕ) (x : plain.Input Reference) (w : look.world.words.same ≡ same) where
  there : (s : Slot) → slice_get a.slots.declared n ≡ Some s → contributed look (slots_are a) (reference.Slot n) 0 (Adds x) ≡ (input_of look (accum_of s.kind) x >>= one_more n)
  there s e =
      ap (λ o. found o >>= λ m. of_slot look x m (slot_named look.world (slots_are a) (reference.Slot n))) (number_there look.world a n w ∙ ap (option_map (λ s. n)) e)
      ∙ ap (of_slot look x n) (named_some look.world a n s w e)

  pub input_gone : slice_get a.slots.declared n ≡ None → contributed look (slots_are a) (reference.Slot n) 0 (Adds x) ≡ Stuck
  input_gone e = ap (λ o. found o >>= λ m. of_slot look x m (slot_named look.world (slots_are a) (reference.Slot n))) (number_there look.world a n w ∙ ap (option_map (λ s. n)) e)

  halts_on : (o : Answer Wrong Given) (h : Halt) → Halts o h → Halts (o >>= one_more n) h
  halts_on o (halt.Wrong v) e = ap (λ o. o >>= one_more n) e
  halts_on o halt.Stuck e = ap (λ o. o >>= one_more n) e
  halts_on o halt.OutOfMemory e = tt

  pub input_there : (s : Slot) (r : Result Input Halt) → slice_get a.slots.declared n ≡ Some s → Tells given (input_of look (accum_of s.kind) x) r
      → Tells (λ input. one_waiting n (given input)) (contributed look (slots_are a) (reference.Slot n) 0 (Adds x)) r
  input_there s (Ok i) e t = there s e ∙ ap (λ o. o >>= one_more n) t
  input_there s (Err h) e t = subst (λ o. Halts o h) (sym (there s e)) (halts_on (input_of look (accum_of s.kind) x) h t)

pub ruleset input_laws = (input_gone, input_there)

-- ---- appended

abbrev after_input : ℕ → Written Reference → Answer Wrong (List Contribution) → Answer BlockFault (Written Reference)
after_input v w o = blaming (AtPlace v) o >>= λ xs. Gives (record w { to_globals = w.to_globals ++ xs })

abbrev gives_so : Written Reference → Answer BlockFault (Written Reference)
gives_so w = Gives w

module _ (clock : Calendar) (o : Over) (aliases : List (ℕ × Placed)) (n v : ℕ) (c : plain.Change Reference) (before : Writing) where
  feed_is : (p : Post Reference) → SeesSo clock o aliases v p → feed p (reference.Slot n) c (written before) ≡ after_input v (written before) (contributed (look_now clock o aliases before.accums) (slots_are before.accums) (reference.Slot n) 0 c)
  feed_is p h =
      ap (λ l. after_input p.vertex (written before) (contributed l (slots_are before.accums) (reference.Slot n) 0 c)) (sym (h.looks before.accums))
      ∙ ap (λ u. after_input u (written before) (contributed (look_now clock o aliases before.accums) (slots_are before.accums) (reference.Slot n) 0 c)) h.vertex

  pub wait_stops : (h : Halt) (e : code.BlockFault) → Halts (contributed (look_now clock o aliases before.accums) (slots_are before.accums) (reference.Slot n) 0 c) h → e ≡ fault_at v h → DoesSo clock o aliases v (λ p. feed p (reference.Slot n) c) before (Err e)
  wait_stops h e s is = record {
    each = λ p sees. subst (λ e. EndsAs (feed p (reference.Slot n) c (written before)) e) (sym is)
        (subst (λ o. EndsAs o (fault_at v h)) (sym (feed_is p sees)) (stops_at (contributed (look_now clock o aliases before.accums) (slots_are before.accums) (reference.Slot n) 0 c) (λ xs. Gives (record (written before) { to_globals = waiting_are before.accums.slots before.waiting ++ xs })) v h s));
  }

  pub wait_more : (x : Input) (ws : Waiting) → contributed (look_now clock o aliases before.accums) (slots_are before.accums) (reference.Slot n) 0 c ≡ Gives (one_waiting n (given x)) → IsQueued before.accums.slots n x before.waiting ws
      → DoesSo clock o aliases v (λ p. feed p (reference.Slot n) c) before (Ok (record { accums = before.accums; waiting = ws }))
  wait_more x ws g q = record {
    each = λ p h.
        feed_is p h ∙ ap (after_input v (written before)) g
        ∙ ap (λ xs. gives_so (record { slots = slots_are before.accums; to_globals = xs })) (sym (waiting_more before.accums.slots n x before.waiting ws q));
  }

  pub wait_taken : (x : Input) (ws : Waiting) → AreTaken before → IsQueued before.accums.slots n x before.waiting ws → AreTaken (record { accums = before.accums; waiting = ws })
  wait_taken x ws t q = record { each = all_taken before.accums.slots n x before.waiting ws t.each q }

pub wait_memory : (clock : Calendar) (o : Over) (aliases : List (ℕ × Placed)) (n v : ℕ) (c : plain.Change Reference) (before : Writing) → DoesSo clock o aliases v (λ p. feed p (reference.Slot n) c) before (Err fault.OutOfMemory)
wait_memory clock o aliases n v c before = record { each = λ p h. tt }

pub ruleset wait_laws = (wait_stops, wait_more, wait_taken, wait_memory, keeps_itself)
