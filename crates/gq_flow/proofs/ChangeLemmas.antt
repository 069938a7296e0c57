-- ChangeLemmas: a change of a global accumulator, for each state that is shown.
use Rattle.std.proofs.Common.{◌≡◌, ℕ, true, false, List, reverse, None, Some, Result, Ok, Err, refl, sym, ap, ap₂, subst, ◌∙◌}
use Rattle.std.specs.Prelude.{slice_get}
use Rattle.gq_value.specs.declared.kind.Slot as code
use Rattle.gq_value.specs.AccumViews.{accum_of}
use Rattle.gq_rules_typing.specs.Selecting as plain
use Rattle.gq_rules_meaning.specs.Answers.{Answer, Gives, ◌>>=◌, blaming}
use Rattle.gq_rules_meaning.specs.Calendars.{Calendar}
use Rattle.gq_rules_meaning.specs.Expressions.{Look}
use Rattle.gq_rules_meaning.specs.States as states
use Rattle.gq_rules_meaning.specs.States.{State}
use Rattle.gq_rules_meaning.specs.Statements.{of_write}
use Rattle.gq_rules_meaning.specs.Writes.{WriteFault, made_by, slots_changed}
use Rattle.gq_plan_ir.specs.Reference.{Reference, Slot}
use Rattle.gq_frame.specs.declared.accums.Accums.{Accums}
use Rattle.gq_eval_operand.specs.declared.halt.Halt.{Halt}
use Rattle.gq_eval_operand.specs.declared.halt.Halt.TheVariants as halt
use Rattle.gq_eval_operand.specs.Meant.{Tells}
use Rattle.gq_frame.specs.Slots.{AreSound, slots_are}
use Rattle.gq_frame.specs.declared.live.Live.{Live}
use Rattle.gq_frame.specs.Lives.{Lives, Unwinds}
use Rattle.gq_exec_control.specs.declared.running.RunFault.{RunFault}
use Rattle.gq_exec_control.specs.declared.running.RunFault.TheVariants as fault
use Rattle.gq_exec_control.specs.Standing.{Ends}
use Rattle.gq_exec_control.proofs.FaultLemmas.{ends_bind, ends_same}
use Rattle.gq_exec_post.specs.declared.making.Made.{Made}
use Rattle.gq_exec_post.specs.Changing.{Changed}
use Rattle.gq_exec_post.specs.Making.{making_of}
use Rattle.gq_exec_post.proofs.WriteLaws.{change_faults, change_made, change_sticks}
use Rattle.gq_exec_post.proofs.WriteLemmas.{made_gone, made_there}
use Rattle.gq_exec_control.specs.Contexts.{Basis, look_on, world_on}
use Rattle.gq_exec_control.specs.Faults.{fault_of}
use Rattle.gq_exec_control.specs.Changes.{Becomes}
use Rattle.gq_exec_control.proofs.ContextLemmas.{look_there, shows_of}
use Rattle.gq_flow.specs.Steps.{Makes, global_so}

-- ---- what is made

pub makes_told : (look : Look Reference) (a : Accums) (n : ℕ) (change : plain.Change Reference) (s : code.Slot) (told : Result Made Halt) → slice_get a.slots.declared n ≡ Some s
    → Tells making_of (made_by look (accum_of s.kind) change) told → Makes look a n change told
makes_told look a n change s (Ok m) e t = (s, e, t)
makes_told look a n change s (Err (halt.Wrong w)) e t = (s, e, t)
makes_told look a n change s (Err halt.Stuck) e t = made_there look a n change s (Err halt.Stuck) e t
makes_told look a n change s (Err halt.OutOfMemory) e t = tt

pub makes_gone : (look : Look Reference) (a : Accums) (n : ℕ) (change : plain.Change Reference) → slice_get a.slots.declared n ≡ None → Makes look a n change (Err halt.Stuck)
makes_gone look a n change e = made_gone look a n change e

pub ruleset makes_laws = (makes_told, makes_gone)

-- ---- the change

module _ (clock : Calendar) (b : Basis) (n : ℕ) (change : plain.Change Reference) (old : Live) where
  -- the accumulators after the change
  abbrev slots_then : Answer WriteFault (List (states.Slot Reference))
  slots_then = slots_changed (look_on clock b old.frame) (slots_are old.frame.accums) (Slot n) 0 change

  so_is : (s : State Reference) → Lives old s → global_so (world_on clock b) n change s ≡ (blaming of_write slots_then >>= λ slots. Gives (record s { slots = slots }))
  so_is s l =
      ap₂ (λ look slots. blaming of_write (slots_changed look slots (Slot n) 0 change) >>= λ slots. Gives (record s { slots = slots }))
      (sym (look_there clock b old.frame s (shows_of old s l))) l.slots

  ends_so : (h : Halt) → Makes (look_on clock b old.frame) old.frame.accums n change (Err h) → Ends (blaming of_write slots_then) (fault_of h)
  ends_so (halt.Wrong w) m = ap (blaming of_write) (change_faults (look_on clock b old.frame) old.frame.accums n 0 change m.0 refl m.1 w m.2)
  ends_so halt.Stuck m = ap (blaming of_write) (change_sticks (look_on clock b old.frame) old.frame.accums n 0 change refl m)
  ends_so halt.OutOfMemory m = tt

  pub change_stops : (new : Live) (h : Halt) (e : RunFault) → e ≡ fault_of h → Makes (look_on clock b old.frame) old.frame.accums n change (Err h) → Becomes (global_so (world_on clock b) n change) old new (Err e)
  change_stops new h e is m = record {
    each = λ s l.
        ends_same (global_so (world_on clock b) n change s) (blaming of_write slots_then >>= λ slots. Gives (record s { slots = slots })) e (so_is s l)
        (ends_bind (blaming of_write slots_then) (λ slots. Gives (record s { slots = slots })) e (subst (Ends (blaming of_write slots_then)) (sym is) (ends_so h m)));
  }

  pub change_too_big : (new : Live) (now : Accums) (m : Made) → Makes (look_on clock b old.frame) old.frame.accums n change (Ok m) → Changed m old.frame.accums now n 0 false
      → Becomes (global_so (world_on clock b) n change) old new (Err (fault.SumRange n))
  change_too_big new now m k c = record {
    each = λ s l.
        so_is s l
        ∙ ap (λ o. blaming of_write o >>= λ slots. Gives (record s { slots = slots })) (change_made (look_on clock b old.frame) old.frame.accums n 0 change k.0 refl k.1 m now false k.2 c);
  }

  pub change_done : (new : Live) (m : Made) → Makes (look_on clock b old.frame) old.frame.accums n change (Ok m) → new.frame.things ≡ old.frame.things → new.undo ≡ old.undo
      → Changed m old.frame.accums new.frame.accums n 0 true → Becomes (global_so (world_on clock b) n change) old new (Ok tt)
  change_done new m k things undo c = record {
    each = λ s l. (
      record s { slots = slots_are new.frame.accums },
      so_is s l ∙ ap (λ o. blaming of_write o >>= λ slots. Gives (record s { slots = slots })) (change_made (look_on clock b old.frame) old.frame.accums n 0 change k.0 refl k.1 m new.frame.accums true k.2 c),
      record {
        names = subst (λ ts. Unwinds ts (reverse new.undo.items) s.names) (sym things) (subst (λ us. Unwinds old.frame.things (reverse us.items) s.names) (sym undo) l.names);
        slots = refl;
      },
    );
  }

pub changed_sound : (m : Made) (old new : Accums) (n : ℕ) → Changed m old new n 0 true → AreSound new
changed_sound m old new n c = c.sound refl
