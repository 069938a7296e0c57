-- WriteLemmas: a write at a vertex, seen and judged at once.
use Rattle.std.proofs.Common.{◌≡◌, ℕ, Bool, true, false, List, Option, Some, None, Result, Ok, Err, slice_get, refl, sym, ap, ap₂, subst, ◌∙◌}
use Rattle.std.specs.Prelude.{OnOk}
use Rattle.std.specs.List.{All}
use Rattle.gq_value.specs.declared.kind.Slot.{Slot}
use Rattle.gq_value.specs.declared.value.Wrong.{Wrong}
use Rattle.gq_value.specs.AccumViews.{accum_of}
use Rattle.gq_rules_typing.specs.Selecting as plain
use Rattle.gq_rules_meaning.specs.Answers.{Answer, Gives, Faults, Stuck, ◌>>=◌, blaming, found}
use Rattle.gq_rules_meaning.specs.Blocks.{BlockFault, SumRange}
use Rattle.gq_rules_meaning.specs.Calendars.{Calendar}
use Rattle.gq_rules_meaning.specs.Expressions.{Look}
use Rattle.gq_rules_meaning.specs.Posts.{Post, Written, at_vertex, write}
use Rattle.gq_rules_meaning.specs.Writes.{Making, WriteFault, Wrongly, if_fit, made_by, slots_changed}
use Rattle.gq_rules_meaning.specs.States as states
use Rattle.gq_plan_ir.specs.Reference as reference
use Rattle.gq_plan_ir.specs.Reference.{Reference}
use Rattle.gq_frame.specs.declared.accums.Accums.{Accums}
use Rattle.gq_eval_operand.specs.declared.halt.Halt.{Halt}
use Rattle.gq_eval_operand.specs.declared.halt.Halt.TheVariants as halt
use Rattle.gq_eval_operand.specs.Meant.{Halts, Tells}
use Rattle.gq_frame.specs.Names.{Placed}
use Rattle.gq_frame.specs.Slots.{slots_are}
use Rattle.gq_eval_context.specs.Viewed.{Over}
use Rattle.gq_eval_context.specs.declared.after.BlockFault as code
use Rattle.gq_eval_context.specs.declared.after.BlockFault.TheVariants as fault
use Rattle.gq_exec_post.specs.declared.making.Made.{Made}
use Rattle.gq_exec_post.specs.Changing.{Changed}
use Rattle.gq_exec_post.specs.Making.{making_of}
use Rattle.gq_exec_post.proofs.WriteLaws.{change_faults, change_made, change_sticks}
use Rattle.gq_exec_post.specs.declared.writing.Writing.{Writing}
use Rattle.gq_eval_context.specs.Faults.{fault_at}
use Rattle.gq_exec_post.specs.Sights.{DoesSo, PutSo, SeesSo, look_now, made_at}
use Rattle.gq_exec_post.specs.declared.waiting.Waiting.{Waiting}
use Rattle.gq_frame.specs.declared.slots.Slots.{Slots}
use Rattle.gq_exec_post.specs.Waiting.{IsTaken, batch_of, waiting_are}
use Rattle.gq_exec_post.specs.Writing.{AreTaken, KeepsTo, left, written}

-- ---- what a change makes

pub made_gone : (look : Look Reference) (a : Accums) (n : ℕ) (c : plain.Change Reference) → slice_get a.slots.declared n ≡ None → made_at look a.slots n c ≡ Stuck
made_gone look a n c e = ap (λ (o : Option Slot). found o >>= λ s. made_by look (accum_of s.kind) c) e

pub made_there : (look : Look Reference) (a : Accums) (n : ℕ) (c : plain.Change Reference) (s : Slot) (r : Result Made Halt) → slice_get a.slots.declared n ≡ Some s → Tells making_of (made_by look (accum_of s.kind) c) r → Tells making_of (made_at look a.slots n c) r
made_there look a n c s r e t = subst (λ (o : Option Slot). Tells making_of (found o >>= λ s. made_by look (accum_of s.kind) c) r) (sym e) t

pub ruleset made_laws = (made_gone, made_there)

-- ---- a write

-- the effect of a write in the definitions on the current accumulators
abbrev after_write : ℕ → Written Reference → Answer WriteFault (List (states.Slot Reference)) → Answer BlockFault (Written Reference)
after_write v w o = blaming (at_vertex v) o >>= λ slots. Gives (record w { slots = slots })

abbrev given_so : Written Reference → Answer BlockFault (Written Reference)
given_so w = Gives w

abbrev faulted_so : BlockFault → Answer BlockFault (Written Reference)
faulted_so f = Faults f

module _ (clock : Calendar) (o : Over) (aliases : List (ℕ × Placed)) (n v : ℕ) (c : plain.Change Reference) (before : Writing) where
  abbrev look : Look Reference
  look = look_now clock o aliases before.accums

  abbrev changed : Answer WriteFault (List (states.Slot Reference))
  changed = slots_changed look (slots_are before.accums) (reference.Slot n) v c

  write_is : (p : Post Reference) → SeesSo clock o aliases v p → write p (reference.Slot n) c (written before) ≡ after_write v (written before) changed
  write_is p h =
      ap (λ l. after_write p.vertex (written before) (slots_changed l (slots_are before.accums) (reference.Slot n) p.vertex c)) (sym (h.looks before.accums))
      ∙ ap (λ u. after_write u (written before) (slots_changed look (slots_are before.accums) (reference.Slot n) u c)) h.vertex

  -- the result for a slot that exists, and for one that doesn't
  faults : (x : Wrong) (d : Option Slot) → slice_get before.accums.slots.declared n ≡ d → ◌≡◌ {A = Answer Wrong Making} (found d >>= λ (s : Slot). made_by look (accum_of s.kind) c) (Faults x) → changed ≡ Faults (Wrongly x)
  faults x None e m = absurd (cc m)
  faults x (Some s) e m = change_faults look before.accums n v c s refl e x m

  halts_so : (h : Halt) → Halts (made_at look before.accums.slots n c) h → DoesSo clock o aliases v (λ p. write p (reference.Slot n) c) before (Err (fault_at v h))
  halts_so (halt.Wrong x) m = record { each = λ p h. write_is p h ∙ ap (after_write v (written before)) (faults x (slice_get before.accums.slots.declared n) refl m) }
  halts_so halt.Stuck m = record { each = λ p h. write_is p h ∙ ap (after_write v (written before)) (change_sticks look before.accums n v c refl m) }
  halts_so halt.OutOfMemory m = record { each = λ p h. tt }

  pub write_stops : (h : Halt) (e : code.BlockFault) → Halts (made_at look before.accums.slots n c) h → e ≡ fault_at v h → DoesSo clock o aliases v (λ p. write p (reference.Slot n) c) before (Err e)
  write_stops h e m is = subst (λ e. DoesSo clock o aliases v (λ p. write p (reference.Slot n) c) before (Err e)) (sym is) (halts_so h m)

  made : (m : Made) (new : Accums) (fit : Bool) (d : Option Slot) → slice_get before.accums.slots.declared n ≡ d → ◌≡◌ {A = Answer Wrong Making} (found d >>= λ (s : Slot). made_by look (accum_of s.kind) c) (Gives (making_of m)) → Changed m before.accums new n v fit
      → changed ≡ if_fit n fit (slots_are new)
  made m new fit None e g h = absurd (cc g)
  made m new fit (Some s) e g h = change_made look before.accums n v c s refl e m new fit g h

  pub write_made : (m : Made) (r : Result Writing code.BlockFault) → made_at look before.accums.slots n c ≡ Gives (making_of m) → PutSo m n v before r → DoesSo clock o aliases v (λ p. write p (reference.Slot n) c) before r
  write_made m (Ok w) g put = record {
    each = λ p h.
        write_is p h ∙ ap (after_write v (written before)) (made m w.accums true (slice_get before.accums.slots.declared n) refl g put.0)
        ∙ ap₂ (λ slots ws. given_so (record { slots = slots_are w.accums; to_globals = waiting_are slots ws })) (sym put.0.slots) (sym put.1);
  }
  write_made m (Err (fault.SumRange k)) g put = record {
    each = λ p h.
        write_is p h ∙ ap (after_write v (written before)) (made m put.1.0 false (slice_get before.accums.slots.declared n) refl g put.1.1)
        ∙ ap (λ k. faulted_so (SumRange k)) (sym put.0);
  }
  write_made m (Err (fault.Eval at w)) g put = absurd put
  write_made m (Err fault.Stuck) g put = absurd put
  write_made m (Err fault.OutOfMemory) g put = record { each = λ p h. tt }

pub put_keeps : {U : Type 0} (m : Made) (n v : ℕ) (before after : Writing) (r : Result U code.BlockFault) → PutSo m n v before (left r after) → OnOk r (KeepsTo before.accums after.accums)
put_keeps m n v before after (Ok u) put = record { sound = put.0.sound refl; slots = put.0.slots }
put_keeps m n v before after (Err e) put = tt

pub put_taken : {U : Type 0} (m : Made) (n v : ℕ) (before after : Writing) (r : Result U code.BlockFault) → PutSo m n v before (left r after) → AreTaken before → OnOk r (AreTaken after)
put_taken m n v before after (Ok u) put t = record {
  each = subst (λ (ws : Waiting). All (IsTaken after.accums.slots) (batch_of ws)) (sym put.1) (subst (λ (slots : Slots). All (IsTaken slots) (batch_of before.waiting)) (sym put.0.slots) t.each);
}
put_taken m n v before after (Err e) put t = tt

pub ruleset write_laws = (write_stops, write_made, put_keeps, put_taken)
