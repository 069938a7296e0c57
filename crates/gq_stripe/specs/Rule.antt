-- Rule: the invariant of a book between any two steps. Its words, slots and views show a core of gq_core that meets the
-- accounts, and each stripe that is at home holds what was put there. The code stores no lists of draws and puts.
use Rattle.std.specs.Prelude.{◌≡◌, ℕ, ◌+◌, ◌*◌, ◌-◌, ◌^◌, ◌%◌, ◌<◌, ◌≤◌, ◌==◌, ◌&&◌, Bool, true, false, List, [], ◌∷◌, ◌++◌, length, map, sum_by, slice_get, slice_index, Option, Some, None, All}
use mathlib.Core.Option.{some}
use lib.ListN.{get_elem?}
use Rattle.atomic_table.specs.Table as table
use Rattle.gq_core.specs.declared.worker.Phase.{Phase}
use Rattle.gq_core.specs.declared.worker.Phase.TheVariants.{Idle, Ended, Joined, Lifted}
use Rattle.gq_core.specs.declared.worker.Turn.{Turn}
use Rattle.gq_core.specs.declared.worker.Worker.{Worker}
use Rattle.gq_core.specs.Accounts.{one_if, below, State, Accounts}
use Rattle.gq_stripe.specs.declared.view.Plan.{Plan}
use Rattle.gq_stripe.specs.declared.view.Put.{Put}
use Rattle.gq_stripe.specs.declared.view.View.{View}
use Rattle.gq_stripe.specs.declared.stripe.Stripe.{Stripe}
use Rattle.gq_stripe.specs.Contents.{FitsBatch, any_spoiled, all_scalar}
use Rattle.gq_stripe.specs.Laid.{IsLaid}

-- a slot: a stripe, or nothing while its seat works on it
abbrev pub Slot : Type 0
Slot = Option Stripe

abbrev pub Table : Type 0
Table = table.State Slot View

-- the words: the next number to draw, and for each stripe the tickets issued and the one that is served
abbrev pub next : List ℕ → ℕ
next words = slice_index words 0

abbrev pub tickets : List ℕ → ℕ → ℕ
tickets words j = slice_index words (2 * j + 1)

abbrev pub serving : List ℕ → ℕ → ℕ
serving words j = slice_index words (2 * j + 2)

-- a view as a worker of a core
abbrev pub worker : View → Worker
worker v = record { phase = v.phase; draws = v.draws; puts = map (λ p. (p.chunk, p.stripe)) v.puts }

-- the core that is shown, with these puts at each stripe, and these workers having stripes away
abbrev pub core : Table → (ℕ → List Put) → (ℕ → Option ℕ) → State
core s books away = record {
  next = next s.words;
  tickets = λ j. tickets s.words j;
  serving = λ j. serving s.words j;
  book = λ j. map (λ p. p.chunk) (books j);
  away = away;
  workers = map worker s.views;
}

-- how often a ticket of a stripe occurs in these puts
abbrev pub put_with : ℕ → ℕ → List Put → ℕ
put_with j t [] = 0
put_with j t (p ∷ ps) = one_if ((j == p.stripe) && (t == p.ticket)) + put_with j t ps

-- a put is stored in the book of its stripe, at its ticket
abbrev pub StandsIn : (ℕ → List Put) → Put → Type 0
StandsIn books p = slice_get (books p.stripe) p.ticket ≡ Some p

-- 1 once the seat has ended
abbrev pub over : Phase → ℕ
over Ended = 1
over _ = 0

-- the view of a seat that was joined into another one
abbrev pub spent : View
spent = record { of = record { layout = []; chunks = 0; stripes = 0; seats = 0 }; stands = 0; ended = 0; spare = 0; phase = Joined; batch = []; base = []; draws = []; puts = [] }

-- what holds for one view: it is of this book or spent; not all of its seats have ended while it may draw; its puts
-- are in the books, and its base is the book of the stripe that it has away
pub record IsSeat (plan : Plan) (books : ℕ → List Put) (v : View) : Type 0 where
  pub same : 0 < v.stands → v.of ≡ plan
  pub live : v.stands ≡ 0 → v ≡ spent
  pub ended : 0 < v.stands → v.ended + 1 ≤ v.stands + over v.phase
  pub base : (t : Turn) → v.phase ≡ Lifted t → v.base ≡ books t.stripe
  pub puts : All (StandsIn books) v.puts

-- the put at a ticket of stripe j
pub record IsEntry (plan : Plan) (j t : ℕ) (p : Put) : Type 0 where
  pub stripe : p.stripe ≡ j
  pub ticket : p.ticket ≡ t
  pub fits : FitsBatch plan.layout plan.stripes j p.batch

-- stripe j, with the puts in its book
pub record IsStripe (plan : Plan) (s : Table) (j : ℕ) (book : List Put) (away : Option ℕ) : Type 0 where
  -- it has the tickets that were served, each with one put
  pub count : length book ≡ serving s.words j
  pub entries : (t : ℕ) (p : Put) → slice_get book t ≡ Some p → IsEntry plan j t p
  pub once : (t : ℕ) → sum_by (λ v. put_with j t v.puts) s.views ≡ below t (serving s.words j)
  -- kinds that need no memory are never spoiled
  pub scalars : all_scalar plan.layout ≡ true → any_spoiled book ≡ false
  -- the stripe at home is the one after these puts
  pub home : away ≡ None → (stripe : Stripe) × (get_elem? s.homes j ≡ some (some (Some stripe))) × IsLaid plan.layout plan.stripes j book stripe

-- limits of a book
pub record IsWithin (plan : Plan) : Type 0 where
  pub stripes : (1 ≤ plan.stripes) × (plan.stripes ≤ 256)
  pub chunks : plan.chunks ≤ 2 ^ 25
  pub seats : plan.seats ≤ 1024

pub record IsKept (plan : Plan) (s : Table) : Type 0 where
  pub books : ℕ → List Put
  pub away : ℕ → Option ℕ
  pub size : length s.words ≡ 2 * plan.stripes + 1
  pub slots : length s.homes ≡ plan.stripes
  pub within : IsWithin plan
  pub accounts : Accounts plan.chunks plan.stripes (core s books away)
  -- the seats that were made, those that have ended, and those that may still be made
  pub made : length s.views ≡ sum_by (λ v. v.stands) s.views
  pub shared : sum_by (λ v. v.stands) s.views + sum_by (λ v. v.spare) s.views ≡ plan.seats
  pub over_at : next s.words ≤ plan.chunks + sum_by (λ v. v.ended) s.views
  pub over_past : 0 < sum_by (λ v. v.ended) s.views → plan.chunks < next s.words
  pub seats : (k : ℕ) (v : View) → get_elem? s.views k ≡ some v → IsSeat plan books v
  pub stripes : (j : ℕ) → j < plan.stripes → IsStripe plan s j (books j) (away j)

-- the first seat's view
abbrev pub first : Plan → View
first plan = record { of = plan; stands = 1; ended = 0; spare = plan.seats - 1; phase = Idle; batch = []; base = []; draws = []; puts = [] }

-- the view after one of its spare seats was handed over, and the view of that seat
abbrev pub handed : View → View
handed v = record v { spare = v.spare - 1 }

abbrev pub fresh : View → View
fresh v = record { of = v.of; stands = 1; ended = 0; spare = 0; phase = Idle; batch = []; base = []; draws = []; puts = [] }

-- the view after another one was joined into it
abbrev pub joined : View → View → View
joined v w = record v { stands = v.stands + w.stands; ended = v.ended + w.ended; spare = v.spare + w.spare; draws = v.draws ++ w.draws; puts = v.puts ++ w.puts }
