-- Turns: how the parts of a put change the place of a thread.
use Rattle.std.specs.Prelude.{◌≡◌, ℕ, ◌+◌, ◌<◌, Bool, true, false, List, [], ◌∷◌, ◌++◌, Some}
use Rattle.atomic_table.specs.declared.shared.Seat as atomic
use Rattle.gq_core.specs.declared.worker.Phase.TheVariants.{Lifted}
use Rattle.gq_core.specs.declared.worker.Turn.{Turn}
use Rattle.gq_stripe.specs.declared.view.Plan.{Plan}
use Rattle.gq_stripe.specs.declared.view.Put.{Put}
use Rattle.gq_stripe.specs.declared.view.View.{View}
use Rattle.gq_stripe.specs.declared.stripe.Stripe.{Stripe}
use Rattle.gq_stripe.specs.declared.book.Book.{Book}
use Rattle.gq_stripe.specs.Contents.{Batch, FitsBatch, all_scalar}
use Rattle.gq_stripe.specs.Laid.{IsLaid}
use Rattle.gq_stripe.specs.Rule.{Slot}
use Rattle.gq_stripe.specs.Steps.{IsTaken, made_put, waiting, left}

abbrev pub Place : Type 0
Place = atomic.Seat Slot View

-- a live place of this book, and a stripe of it
pub record IsAt (book : Book) (p : Place) (j : ℕ) : Type 0 where
  pub table : p.table_id ≡ book.table.shared.table_id
  pub inside : j < book.stripes
  pub live : 0 < p.me.0.stands
  pub plan : p.me.0.of ≡ book.table.shared.key

abbrev pub IsSamePlace : Place → Place → Type 0
IsSamePlace old new = (new.table_id ≡ old.table_id) × (new.id ≡ old.id)

abbrev pub turn_at : ℕ → ℕ → ℕ → Turn
turn_at chunk j ticket = record { chunk = chunk; stripe = j; ticket = ticket }

-- the place has its stripe away, as it was after all earlier puts
pub record HasAway (t : Turn) (p : Place) : Type 0 where
  pub phase : p.me.0.phase ≡ Lifted t
  pub stripe : Stripe
  pub away : p.me.1 ≡ (t.stripe, Some stripe) ∷ []
  pub taken : IsTaken p.me.0.of t.stripe p.me.0.base stripe

abbrev pub FitsAt : Place → ℕ → Batch → Type 0
FitsAt p j batch = FitsBatch p.me.0.of.layout p.me.0.of.stripes j batch

-- the stripe that is away has one more put, of this batch
pub record HasLaid (t : Turn) (batch : Batch) (spoiled : Bool) (old new : Place) : Type 0 where
  pub stripe : Stripe
  pub away : new.me.1 ≡ (t.stripe, Some stripe) ∷ []
  pub is : stripe.spoiled ≡ spoiled
  pub laid : (p : Put) → p.batch ≡ batch → p.spoiled ≡ spoiled → IsLaid old.me.0.of.layout old.me.0.of.stripes t.stripe (old.me.0.base ++ p ∷ []) stripe
  pub scalars : all_scalar old.me.0.of.layout ≡ true → spoiled ≡ false

-- the stripe that is away has the put of this turn
pub record CanLeave (t : Turn) (spoiled : Bool) (p : Place) : Type 0 where
  pub phase : p.me.0.phase ≡ Lifted t
  pub stripe : Stripe
  pub away : p.me.1 ≡ (t.stripe, Some stripe) ∷ []
  pub is : stripe.spoiled ≡ spoiled
  pub laid : IsLaid p.me.0.of.layout p.me.0.of.stripes t.stripe (p.me.0.base ++ made_put p.me.0 t spoiled ∷ []) stripe
  pub fits : FitsBatch p.me.0.of.layout p.me.0.of.stripes t.stripe p.me.0.batch
  pub scalars : all_scalar p.me.0.of.layout ≡ true → spoiled ≡ false

-- the chunk was put at stripe j
abbrev pub HasPutAt : ℕ → ℕ → Batch → Bool → View → View → Type 0
HasPutAt chunk j batch spoiled old new = (ticket : ℕ) × (new ≡ left (waiting old chunk j ticket batch) (turn_at chunk j ticket) spoiled)
