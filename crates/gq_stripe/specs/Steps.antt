-- Steps: what each step of a book returns to its seat, and how the seat's view changes. Only its own steps change a
-- view.
use Rattle.std.specs.Prelude.{◌≡◌, ◌≢◌, ℕ, ◌+◌, ◌*◌, ◌^◌, ◌<◌, ◌≤◌, nat_lt, Bool, true, false, if◌then◌else◌, List, [], ◌∷◌, ◌++◌, length, Some, None, All}
use Rattle.atomic_table.specs.Table.{Me, Step}
use Rattle.gq_core.specs.declared.worker.Phase.{Phase}
use Rattle.gq_core.specs.declared.worker.Phase.TheVariants.{Idle, Ended, Holds, Waits, Lifted}
use Rattle.gq_core.specs.declared.worker.Turn.{Turn}
use Rattle.gq_core.specs.Machine.{is_free}
use Rattle.gq_core.specs.Accounts.{times}
use Rattle.gq_stripe.specs.declared.view.Plan.{Plan}
use Rattle.gq_stripe.specs.declared.view.Put.{Put}
use Rattle.gq_stripe.specs.declared.view.View.{View}
use Rattle.gq_stripe.specs.declared.stripe.Stripe.{Stripe}
use Rattle.gq_stripe.specs.Contents.{Batch, FitsInput, inputs_of, any_spoiled, all_scalar}
use Rattle.gq_stripe.specs.Laid.{IsLaid}
use Rattle.gq_stripe.specs.Rule.{Slot}

-- what a step sees of its seat: its view, and the slots that it has away
abbrev pub Known : Type 0
Known = Me Slot View

-- the view after a draw that returned a chunk, and after one that found none
abbrev pub got : View → ℕ → View
got v n = record v { phase = Holds n 0; draws = v.draws ++ n ∷ [] }

abbrev pub last : View → View
last v = record v { phase = Ended; ended = v.ended + 1 }

abbrev pub drew : View → ℕ → View
drew v n = if nat_lt n v.of.chunks then got v n else last v

-- a draw: the number that was found is the seat's own, and nobody drew it before
pub record Draws (step : Step Slot) (before : Known) (found : ℕ) (after : Known) : Type 0 where
  pub slots : after.1 ≡ before.1
  pub view : after.0 ≡ drew before.0 found
  pub fresh : times found before.0.draws ≡ 0
  pub few : length after.0.draws ≤ 2 ^ 25

-- a ticket: the number that was found is the seat's own, for the current batch
abbrev pub waiting : View → ℕ → ℕ → ℕ → Batch → View
waiting v chunk stripe ticket batch = record v { phase = Waits (record { chunk = chunk; stripe = stripe; ticket = ticket }); batch = batch }

abbrev pub Queues : Batch → Step Slot → Known → ℕ → Known → Type 0
Queues batch step before found after = (c j : ℕ) → before.0.phase ≡ Holds c j → (after.1 ≡ before.1) × (after.0 ≡ waiting before.0 c j found batch)

-- the view of a seat that has taken its stripe away, after these puts
abbrev pub lifted : View → Turn → List Put → View
lifted v t base = record v { phase = Lifted t; base = base }

-- a stripe that is away, after these puts, on which more may be laid
pub record IsTaken (plan : Plan) (j : ℕ) (base : List Put) (stripe : Stripe) : Type 0 where
  pub laid : IsLaid plan.layout plan.stripes j base stripe
  pub fit : All (FitsInput plan.layout plan.stripes j) (inputs_of base)
  pub few : length base < 2 ^ 25
  pub room : length (inputs_of base) ≤ length base * 2 ^ 35
  pub scalars : all_scalar plan.layout ≡ true → any_spoiled base ≡ false

-- a look at the ticket that is served: if it is the seat's own, the seat has the stripe away; else nothing changes
pub record IsLook (t : Turn) (before : Known) (found : ℕ) (after : Known) : Type 0 where
  pub turn : found ≡ t.ticket → (base : List Put) × (stripe : Stripe) × (after ≡ (lifted before.0 t base, (t.stripe, Some stripe) ∷ before.1)) × IsTaken before.0.of t.stripe base stripe
  pub other : found ≢ t.ticket → after ≡ before

abbrev pub Looks : Step Slot → Known → ℕ → Known → Type 0
Looks step before found after = (t : Turn) → before.0.phase ≡ Waits t → IsLook t before found after

-- whether the stripe that is away is spoiled
abbrev pub slot_spoiled : Slot → Bool
slot_spoiled (Some stripe) = stripe.spoiled
slot_spoiled None = false

abbrev pub away_spoiled : List (ℕ × Slot) → Bool
away_spoiled [] = false
away_spoiled (taken ∷ others) = slot_spoiled taken.1

-- where a chunk is put after a stripe: at the next one, or nowhere after the last one
abbrev pub behind : ℕ → Turn → Phase
behind stripes t = if nat_lt (t.stripe + 1) stripes then Holds t.chunk (t.stripe + 1) else Idle

-- the put that a turn makes
abbrev pub made_put : View → Turn → Bool → Put
made_put v t spoiled = record { chunk = t.chunk; stripe = t.stripe; ticket = t.ticket; batch = v.batch; spoiled = spoiled }

-- the view of a seat that has left a stripe
abbrev pub left : View → Turn → Bool → View
left v t spoiled = record v { phase = behind v.of.stripes t; batch = []; base = []; puts = v.puts ++ made_put v t spoiled ∷ [] }

-- a leave: the stripe is at home again, and the seat has its put
abbrev pub Leaves : Step Slot → Known → ℕ → Known → Type 0
Leaves step before found after = (t : Turn) → before.0.phase ≡ Lifted t → (after.1 ≡ []) × (after.0 ≡ left before.0 t (away_spoiled before.1))

-- a look that changes nothing: bounds on the numbers of a view
pub record Counts (step : Step Slot) (before : Known) (found : ℕ) (after : Known) : Type 0 where
  pub same : after ≡ before
  pub seats : before.0.stands + before.0.spare ≤ 1024
  pub few : length before.0.draws ≤ 2 ^ 25
  pub once : (chunk : ℕ) → times chunk before.0.draws ≤ 1
  -- if a view represents all seats, one of which has ended, and holds no chunk, it has all puts
  pub whole : before.0.stands ≡ before.0.of.seats → 0 < before.0.ended → is_free before.0.phase ≡ true → length before.0.puts ≡ before.0.of.chunks * before.0.of.stripes
