-- Changing: the accumulators after a change of one of them at a vertex.
use Rattle.std.specs.Prelude.{◌≡◌, ℕ, ◌<◌, Bool, true, slice_get, Some}
use Rattle.gq_value.specs.declared.kind.Slot.{Slot}
use Rattle.gq_value.specs.Accums.{Accum}
use Rattle.gq_value.specs.AccumViews.{accum_of, given}
use Rattle.gq_value.specs.Views.{val}
use Rattle.gq_value.specs.Typed.{takes, suits}
use Rattle.gq_accum_laws.specs.Holds.{Holds}
use Rattle.gq_accum_laws.specs.Fits.{HasRoom, fits}
use Rattle.gq_nest.specs.declared.content.Content.{Content}
use Rattle.gq_nest.specs.Shows.{Shows}
use Rattle.gq_nest.specs.Tells.{CanBeSet, Tells, is_settable}
use Rattle.gq_frame.specs.declared.slots.Slots.{Slots}
use Rattle.gq_frame.specs.declared.accums.Accums.{Accums}
use Rattle.gq_frame.specs.Pages.{ChangesAt}
use Rattle.gq_frame.specs.Targets.{targets_of}
use Rattle.gq_rules_meaning.specs.States as states
use Rattle.gq_rules_meaning.specs.Writes.{changed_at, fits_at, slot_changed}
use Rattle.gq_plan_ir.specs.Reference.{Reference}
use Rattle.gq_frame.specs.Slots.{AreSound, slots_are}
use Rattle.gq_exec_post.specs.declared.making.Made.{Made}
use Rattle.gq_exec_post.specs.declared.making.Made.TheVariants as made
use Rattle.gq_exec_post.specs.Making.{making_of}
use Rattle.gq_exec_post.specs.Judging.{fits_where}

-- a kind takes a change
abbrev pub MaySuit : Accum → Made → Type 0
MaySuit k (made.Input x) = suits k (given x) ≡ true
MaySuit k (made.Value v) = (is_settable k ≡ true) × (takes k (val v) ≡ true)

-- the target of a change exists, and its kind takes the change
pub record MayChange (slots : Slots) (n v : ℕ) (m : Made) : Type 0 where
  pub slot : Slot
  pub declared : slice_get slots.declared n ≡ Some slot
  pub within : v < targets_of slots.vertices slot
  pub suited : MaySuit (accum_of slot.kind) m

-- a content can be set to a value: it is one number or truth, and the value is of its type
abbrev pub CanTake : Made → Content → Type 0
CanTake (made.Input x) c = Unit {0}
CanTake (made.Value v) c = CanBeSet c (val v)

-- a content takes a change
pub record Becomes (m : Made) (old new : Content) : Type 0 where
  pub each : (k : Accum) (h : Holds k) → Shows k old h → HasRoom k h → MaySuit k m → Shows k new (making_of m k h)

-- what is checked after a change: the part that an input changed, or the whole content
abbrev pub fits_after : Made → (k : Accum) → Holds k → Bool
fits_after (made.Input x) k h = fits_where k h (given x)
fits_after (made.Value v) k h = fits k h

-- the content at a target takes a change, and the others show the same as before
pub record ChangesOne (m : Made) (old new : Accums) (target : ℕ) (fit : Bool) : Type 0 where
  pub changes : ChangesAt (Becomes m) target old.contents new.contents
  pub judged : Tells changes.now fit (fits_after m)
  pub slots : new.slots ≡ old.slots

-- the accumulators after a change, and whether the changed content fits
pub record Changed (m : Made) (old new : Accums) (n v : ℕ) (fit : Bool) : Type 0 where
  pub slot : states.Slot Reference
  pub stands : slice_get (slots_are old) n ≡ Some slot
  pub slots : new.slots ≡ old.slots
  pub changed : slots_are new ≡ changed_at (slot_changed (making_of m) v) n (slots_are old)
  pub judged : fits_at v (slot_changed (making_of m) v slot) ≡ fit
  pub sound : fit ≡ true → AreSound new
