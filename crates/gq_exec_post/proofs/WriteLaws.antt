-- WriteLaws: a change made in two steps is the change of the definitions.
use Rattle.std.proofs.Common.{◌≡◌, ℕ, Bool, List, Option, Some, None, slice_get, refl, sym, ap, ap₂, ◌∙◌}
use Rattle.std.specs.Option.{option_map}
use Rattle.gq_value.specs.declared.kind.Slot.{Slot}
use Rattle.gq_value.specs.declared.value.Wrong.{Wrong}
use Rattle.gq_value.specs.AccumViews.{accum_of}
use Rattle.gq_frame.specs.declared.accums.Accums.{Accums}
use Rattle.gq_rules_typing.specs.Selecting as plain
use Rattle.gq_rules_meaning.specs.Answers.{Answer, Gives, Faults, Stuck, ◌>>=◌, blaming, found}
use Rattle.gq_rules_meaning.specs.Expressions.{Look}
use Rattle.gq_rules_meaning.specs.States as states
use Rattle.gq_rules_meaning.specs.States.{slot_named}
use Rattle.gq_rules_meaning.specs.Writes.{Making, WriteFault, Wrongly, changed_at, fits_at, if_fit, made_by, slot_changed, slots_changed}
use Rattle.gq_plan_ir.specs.Reference as reference
use Rattle.gq_plan_ir.specs.Reference.{Reference}
use Rattle.gq_plan_ir.specs.References.{same}
use Rattle.gq_frame.specs.Slots.{slots_are}
use Rattle.gq_frame.proofs.SlotLemmas.{number_there, named_some, slot_there}
use Rattle.gq_exec_post.specs.declared.making.Made.{Made}
use Rattle.gq_exec_post.specs.Changing.{Changed}
use Rattle.gq_exec_post.specs.Making.{making_of}

abbrev at_number : List (states.Slot Reference) → Option ℕ → Option (states.Slot Reference)
at_number slots None = None
at_number slots (Some n) = slice_get slots n

module _ (look : Look Reference) (a : Accums) (n v : ℕ) (change : plain.Change Reference) (s : Slot) (w : look.world.words.same ≡ same) (e : slice_get a.slots.declared n ≡ Some s) where
  -- the result for a slot of the definitions
  abbrev of_slot : ℕ → states.Slot Reference → Answer WriteFault (List (states.Slot Reference))
  of_slot m t = blaming Wrongly (made_by look t.kind change) >>= λ f. if_fit m (fits_at v (slot_changed f v t)) (changed_at (slot_changed f v) m (slots_are a))

  at_slot : slots_changed look (slots_are a) (reference.Slot n) v change ≡ of_slot n (slot_there a n s)
  at_slot =
      ap (λ o. found o >>= λ m. found (slot_named look.world (slots_are a) (reference.Slot n)) >>= of_slot m) (number_there look.world a n w ∙ ap (option_map (λ s. n)) e)
      ∙ ap (λ o. found o >>= of_slot n) (named_some look.world a n s w e)

  -- a fault of the evaluation
  pub change_faults : (x : Wrong) → made_by look (accum_of s.kind) change ≡ Faults x → slots_changed look (slots_are a) (reference.Slot n) v change ≡ Faults (Wrongly x)
  change_faults x m = at_slot ∙ ap (λ o. blaming Wrongly o >>= λ f. if_fit n (fits_at v (slot_changed f v (slot_there a n s))) (changed_at (slot_changed f v) n (slots_are a))) m

  -- an evaluated change that was applied and checked
  pub change_made : (m : Made) (new : Accums) (fit : Bool) → made_by look (accum_of s.kind) change ≡ Gives (making_of m) → Changed m a new n v fit
      → slots_changed look (slots_are a) (reference.Slot n) v change ≡ if_fit n fit (slots_are new)
  change_made m new fit g c =
      at_slot ∙ ap (λ o. blaming Wrongly o >>= λ f. if_fit n (fits_at v (slot_changed f v (slot_there a n s))) (changed_at (slot_changed f v) n (slots_are a))) g
      ∙ ap₂ (λ b slots. if_fit n b slots) (ap (λ t. fits_at v (slot_changed (making_of m) v t)) is ∙ c.judged) (sym c.changed)
    where
      stands : slice_get (slots_are a) n ≡ Some (slot_there a n s)
      stands = sym named ∙ named_some look.world a n s w e
        where
          named : slot_named look.world (slots_are a) (reference.Slot n) ≡ slice_get (slots_are a) n
          named = ap (at_number (slots_are a)) (number_there look.world a n w ∙ ap (option_map (λ s. n)) e)

      is : slot_there a n s ≡ c.slot
      is = let h : Some (slot_there a n s) ≡ Some c.slot = sym stands ∙ c.stands in cc

-- a change of an accumulator that isn't there, or one whose evaluation is stuck
module _ (look : Look Reference) (a : Accums) (n v : ℕ) (change : plain.Change Reference) (w : look.world.words.same ≡ same) where
  abbrev making_at : Option Slot → Answer Wrong Making
  making_at d = found d >>= λ (s : Slot). made_by look (accum_of s.kind) change

  pub change_sticks : making_at (slice_get a.slots.declared n) ≡ Stuck → slots_changed look (slots_are a) (reference.Slot n) v change ≡ Stuck
  change_sticks m = by (slice_get a.slots.declared n) refl m
    where
      by : (d : Option Slot) → slice_get a.slots.declared n ≡ d → making_at d ≡ Stuck → slots_changed look (slots_are a) (reference.Slot n) v change ≡ Stuck
      by None e m =
          ap (λ o. found o >>= λ k. found (slot_named look.world (slots_are a) (reference.Slot n)) >>= λ t. blaming Wrongly (made_by look t.kind change) >>= λ f. if_fit k (fits_at v (slot_changed f v t)) (changed_at (slot_changed f v) k (slots_are a)))
          (number_there look.world a n w ∙ ap (option_map (λ s. n)) e)
      by (Some s) e m = at_slot look a n v change s w e ∙ ap (λ o. blaming Wrongly o >>= λ f. if_fit n (fits_at v (slot_changed f v (slot_there a n s))) (changed_at (slot_changed f v) n (slots_are a))) m
