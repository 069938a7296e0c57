-- Lives: when a frame with its undo log shows a state of the definitions, now and after names have been removed.
use Rattle.std.specs.Prelude.{◌≡◌, ℕ, List, [], ◌∷◌, Option, reverse, drop, slice_set}
use Rattle.gq_rules_typing.specs.Words.{under}
use Rattle.gq_rules_meaning.specs.States as states
use Rattle.gq_rules_meaning.specs.States.{State}
use Rattle.gq_plan_ir.specs.Reference.{Reference, Place}
use Rattle.gq_plan_ir.specs.References.{same}
use Rattle.gq_frame.specs.declared.frame.Thing.{Thing}
use Rattle.gq_frame.specs.Names.{thing_for}
use Rattle.gq_frame.specs.Slots.{slots_are}
use Rattle.gq_frame.specs.declared.live.Live.{Live}
use Rattle.gq_frame.specs.declared.live.Undo.{Undo}

-- a name is visible exactly if its place has something, and both are the same
pub record Alike (things : List (Option Thing)) (names : List (Reference × states.Thing)) : Type 0 where
  pub each : (x : Reference) → under same x names ≡ thing_for things x

-- undoing the entries one by one, the last one first, removes one name each and leaves the earlier names visible as before
abbrev pub Unwinds : List (Option Thing) → List Undo → List (Reference × states.Thing) → Type 0
Unwinds things [] [] = Alike things []
Unwinds things (u ∷ us) (n ∷ ns) = Alike things (n ∷ ns) × (n.0 ≡ Place u.place) × Unwinds (slice_set things u.place u.was) us ns
Unwinds things _ _ = ⊥

-- it shows the state, with an undo entry for each of its names
pub record Lives (live : Live) (s : State Reference) : Type 0 where
  pub names : Unwinds live.frame.things (reverse live.undo.items) s.names
  pub slots : s.slots ≡ slots_are live.frame.accums

-- a state without its k last names
abbrev pub without : ℕ → State Reference → State Reference
without k s = record s { names = drop k s.names }
