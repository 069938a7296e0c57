-- The machine: its state, when each event is enabled, and what it does. The code changes its tables in place.
use Rattle.std.specs.Prelude.{◌≡◌, ℕ, ◌+◌, ◌==◌, nat_lt, ◌&&◌, not, Bool, true, false, if◌then◌else◌, List, [], ◌∷◌, ◌++◌, length, replicate, slice_get, slice_set, is_none, unwrap_or, Option, Some, None}
use Rattle.gq_core.specs.declared.job.FeedJob.{FeedJob}
use Rattle.gq_core.specs.declared.stripe.Stripe.{Stripe}
use Rattle.gq_core.specs.declared.worker.Turn.{Turn}
use Rattle.gq_core.specs.declared.worker.Phase.{Phase}
use Rattle.gq_core.specs.declared.worker.Phase.TheVariants.{Idle, Ended, Holds, Waits, Served, Lifted, Laid, Joined}
use Rattle.gq_core.specs.declared.worker.Worker.{Worker}
use Rattle.gq_core.specs.declared.event.Event.{Event}
use Rattle.gq_core.specs.declared.event.Event.TheVariants.{Draw, Ticket, Look, Lift, Lay, Leave, Split, Join}
use Rattle.gq_core.specs.Batches.{batch_of, chunk_at}

-- the next number to draw, the stripes, and all workers that were made
pub record Machine : Type 0 where
  pub next : ℕ
  pub stripes : List Stripe
  pub workers : List Worker

-- a stripe at which nothing was put yet
abbrev pub fresh : Stripe
fresh = record { tickets = 0; serving = 0; book = []; inputs = []; away = None }

-- a worker in this phase that has drawn nothing
abbrev pub newcomer : Phase → Worker
newcomer phase = record { phase = phase; draws = []; puts = [] }

-- the initial machine: one worker, and nothing drawn
abbrev pub opening : FeedJob → Machine
opening job = record { next = 0; stripes = replicate job.stripes fresh; workers = newcomer Idle ∷ [] }

-- a worker by its number; one that was never made counts as joined
abbrev pub worker_at : Machine → ℕ → Worker
worker_at m w = unwrap_or (slice_get m.workers w) (newcomer Joined)

-- a stripe by its number
abbrev pub stripe_at : Machine → ℕ → Stripe
stripe_at m j = unwrap_or (slice_get m.stripes j) fresh

-- a worker with its phase replaced
abbrev pub in_phase : Phase → Worker → Worker
in_phase phase v = record v { phase = phase }

-- the machine with worker w replaced
abbrev pub with_worker : ℕ → Worker → Machine → Machine
with_worker w v m = record m { workers = slice_set m.workers w v }

-- the machine with stripe j replaced
abbrev pub with_stripe : ℕ → Stripe → Machine → Machine
with_stripe j s m = record m { stripes = slice_set m.stripes j s }

-- the machine with worker w in another phase
abbrev pub moved : ℕ → Phase → Machine → Machine
moved w phase m = with_worker w (in_phase phase (worker_at m w)) m

-- the worker after drawing the number n: it holds that chunk at the first stripe, or ends if there is no such chunk
abbrev pub drawn : FeedJob → ℕ → Worker → Worker
drawn job n v = if nat_lt n (length job.chunks) then record v { phase = Holds n 0; draws = v.draws ++ n ∷ [] } else in_phase Ended v

-- Draw: an idle worker gets the next number
abbrev pub draw : FeedJob → Machine → ℕ → Phase → Option Machine
draw job m w Idle = Some (record (with_worker w (drawn job m.next (worker_at m w)) m) { next = m.next + 1 })
draw job m w _ = None

-- Ticket: one that holds a chunk gets the next ticket of the stripe
abbrev pub ticket : Machine → ℕ → Phase → Option Machine
ticket m w (Holds c j) =
    let s = stripe_at m j in
    Some (with_stripe j (record s { tickets = s.tickets + 1 }) (moved w (Waits (record { chunk = c; stripe = j; ticket = s.tickets })) m))
ticket m w _ = None

-- Look: one that waits is served if its ticket is the served one; else nothing changes
abbrev pub look : Machine → ℕ → Phase → Option Machine
look m w (Waits t) = Some (if t.ticket == (stripe_at m t.stripe).serving then moved w (Served t) m else m)
look m w _ = None

-- Lift: one that is served takes the stripe away, if it isn't away
abbrev pub lift : Machine → ℕ → Phase → Option Machine
lift m w (Served t) = let s = stripe_at m t.stripe in if is_none s.away then Some (with_stripe t.stripe (record s { away = Some w }) (moved w (Lifted t) m)) else None
lift m w _ = None

-- a stripe that is back, with this chunk and its batch appended
abbrev pub laid : FeedJob → Turn → Stripe → Stripe
laid job t s = record s {
  away = None;
  book = s.book ++ t.chunk ∷ [];
  inputs = s.inputs ++ batch_of job.stripes t.stripe (chunk_at job.chunks t.chunk);
}

-- Lay: one that has the stripe away brings it back with its chunk
abbrev pub lay : FeedJob → Machine → ℕ → Phase → Option Machine
lay job m w (Lifted t) = Some (with_stripe t.stripe (laid job t (stripe_at m t.stripe)) (moved w (Laid t) m))
lay job m w _ = None

-- where a chunk is put after a stripe: at the next one, or nowhere after the last
abbrev pub behind : FeedJob → Turn → Phase
behind job t = if nat_lt (t.stripe + 1) job.stripes then Holds t.chunk (t.stripe + 1) else Idle

-- Leave: one that has laid its chunk records the put, and lets the next ticket be served
abbrev pub leave : FeedJob → Machine → ℕ → Phase → Option Machine
leave job m w (Laid t) =
    let s = stripe_at m t.stripe in let v = worker_at m w in
    Some (with_stripe t.stripe (record s { serving = s.serving + 1 }) (with_worker w (record v { phase = behind job t; puts = v.puts ++ (t.chunk, t.stripe) ∷ [] }) m))
leave job m w _ = None

-- made, and not joined
abbrev pub is_live : Phase → Bool
is_live Joined = false
is_live _ = true

-- live, and holds no chunk
abbrev pub is_free : Phase → Bool
is_free Idle = true
is_free Ended = true
is_free _ = false

-- Split: makes one more worker, if there are fewer than 1,024
abbrev pub split : Machine → Phase → Option Machine
split m phase = if is_live phase && nat_lt (length m.workers) 1024 then Some (record m { workers = m.workers ++ newcomer Idle ∷ [] }) else None

-- a worker that keeps its phase and gains the draws and puts of another
abbrev pub gathered : Worker → Worker → Worker
gathered v u = record v { draws = v.draws ++ u.draws; puts = v.puts ++ u.puts }

-- Join: of two workers that hold no chunk, the first takes over the draws and puts of the second
abbrev pub join : Machine → ℕ → ℕ → Option Machine
join m w x =
    let v = worker_at m w in let u = worker_at m x in
    if not (w == x) && is_free v.phase && is_free u.phase then Some (with_worker x (newcomer Joined) (with_worker w (gathered v u) m)) else None

-- the machine after an event, or None if the event isn't enabled
abbrev pub happens : FeedJob → Machine → Event → Option Machine
happens job m (Draw w) = draw job m w (worker_at m w).phase
happens job m (Ticket w) = ticket m w (worker_at m w).phase
happens job m (Look w) = look m w (worker_at m w).phase
happens job m (Lift w) = lift m w (worker_at m w).phase
happens job m (Lay w) = lay job m w (worker_at m w).phase
happens job m (Leave w) = leave job m w (worker_at m w).phase
happens job m (Split w) = split m (worker_at m w).phase
happens job m (Join w x) = join m w x

-- the result of a step and the machine after it: true and the machine after the event, or false and an unchanged
-- machine
abbrev pub Tells : Option Machine → Bool → Machine → Machine → Type 0
Tells None answer old new = (answer ≡ false) × (new ≡ old)
Tells (Some after) answer old new = (answer ≡ true) × (new ≡ after)

-- the machine after these events; those that aren't enabled change nothing
abbrev pub run : FeedJob → Machine → List Event → Machine
run job m [] = m
run job m (e ∷ es) = run job (unwrap_or (happens job m e) m) es
