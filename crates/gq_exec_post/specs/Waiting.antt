-- Waiting: the inputs that wait for the end of a phase, and the contributions that they represent.
use Rattle.std.specs.Prelude.{◌≡◌, ℕ, ℤ, ◌<◌, Bool, true, List, [], ◌∷◌, ◌++◌, map, take, drop, get_or, Some, slice_get}
use Rattle.std.specs.List.{All}
use Rattle.std.specs.Int.{w64}
use Rattle.std.specs.Int.RustNames.{FitsSigned}
use Rattle.gq_value.specs.declared.kind.Input.{Input}
use Rattle.gq_value.specs.declared.kind.Input.TheVariants as input
use Rattle.gq_value.specs.declared.value.Value.TheVariants as value
use Rattle.gq_value.specs.AccumViews.{given}
use Rattle.gq_value.specs.Accums.{Accum}
use Rattle.gq_value.specs.Typed.{suits}
use Rattle.gq_accum_laws.specs.Targets.{targets}
use Rattle.gq_rules_meaning.specs.Blocks.{Contribution}
use Rattle.gq_frame.specs.declared.slots.Slots.{Slots}
use Rattle.gq_frame.specs.Targets.{attached_in, number_of}
use Rattle.gq_exec_feed.specs.Taking.{MayTake}
use Rattle.gq_exec_contribute.specs.declared.cells.Cells.{Cells}
use Rattle.gq_exec_contribute.specs.declared.cells.Taken.{Taken}
use Rattle.gq_exec_contribute.specs.declared.scalars.ScalarInput.{ScalarInput}
use Rattle.gq_exec_contribute.specs.Prepared.{Takes}
use Rattle.gq_exec_contribute.specs.Scalars.{as_inputs, made_of, one_int}
use Rattle.gq_exec_post.specs.declared.waiting.Waiting.{Waiting}

-- all inputs that wait, in order, each with the number of its target
abbrev pub batch_of : Waiting → List (ℕ × Input)
batch_of w = as_inputs w.ints ++ w.others

-- the slot and the vertex of a target
abbrev pub place_of : Slots → ℕ → ℕ × ℕ
place_of slots t = get_or (targets slots.vertices (attached_in slots.declared)) t (0, 0)

abbrev pub contribution_of : Slots → ℕ × Input → Contribution
contribution_of slots x = record { slot = (place_of slots x.0).0; vertex = (place_of slots x.0).1; input = given x.1 }

abbrev pub waiting_are : Slots → Waiting → List Contribution
waiting_are slots w = map (contribution_of slots) (batch_of w)

-- the target of an input exists, and takes it
pub record IsTaken (slots : Slots) (x : ℕ × Input) : Type 0 where
  pub may : MayTake slots (contribution_of slots x)
  pub number : number_of slots (place_of slots x.0).0 (place_of slots x.0).1 ≡ x.0

-- an input to the global accumulator of a slot, which takes it
abbrev pub global_to : ℕ → Input → Contribution
global_to n x = record { slot = n; vertex = 0; input = given x }

-- such an input is appended
pub record IsQueued (slots : Slots) (n : ℕ) (x : Input) (old new : Waiting) : Type 0 where
  pub may : MayTake slots (global_to n x)
  pub added : batch_of new ≡ batch_of old ++ (number_of slots n 0, x) ∷ []

-- ---- inputs that were read

-- a truth, a tuple of INTs, and INTs of which the first n are keys and the others parts
abbrev pub one_truth : Bool → Input
one_truth b = input.One (value.Bool b)

abbrev pub tuple_of : List ℤ → Input
tuple_of xs = input.One (value.Tuple (map value.Int xs))

abbrev pub keyed_of : ℕ → List ℤ → Input
keyed_of n xs = input.Keyed (map value.Int (take n xs)) (map one_int (drop n xs))

-- each kind that takes such inputs takes this one
pub record TakesEach (takes : Taken) (x : Input) : Type 0 where
  pub each : (k : Accum) → Takes k takes → suits k (given x) ≡ true

-- numbers of 64 bits
pub record AllFit (xs : List ℤ) : Type 0 where
  pub all : All (FitsSigned w64) xs

-- the first target of a slot exists, and takes an input
pub record MayWait (all : List Cells) (n : ℕ) (x : ScalarInput) (target : ℕ) : Type 0 where
  pub cells : Cells
  pub there : slice_get all n ≡ Some cells
  pub some : 0 < cells.targets
  pub first : target ≡ cells.first
  pub takes : TakesEach cells.takes (made_of x)
