-- Accounts: the invariant of a machine between any two events, in numbers: who drew, holds and put what, and how often.
-- They are stated over plain numbers and workers, so that another machine with the same workers can keep the same
-- accounts.
use Rattle.std.specs.Prelude.{◌≡◌, ℕ, ◌+◌, ◌<◌, ◌≤◌, ◌==◌, nat_lt, ◌&&◌, Bool, if◌then◌else◌, min, List, [], ◌∷◌, length, slice_get, Option, Some, None}
use Rattle.gq_core.specs.declared.job.FeedJob.{FeedJob}
use Rattle.gq_core.specs.declared.worker.Turn.{Turn}
use Rattle.gq_core.specs.declared.worker.Phase.{Phase}
use Rattle.gq_core.specs.declared.worker.Phase.TheVariants.{Holds, Waits, Served, Lifted, Laid}
use Rattle.gq_core.specs.declared.worker.Worker.{Worker}
use Rattle.gq_core.specs.Batches.{batches_of}
use Rattle.gq_core.specs.Machine.{Machine, stripe_at}

-- a test as a number
abbrev pub one_if : Bool → ℕ
one_if test = if test then 1 else 0

-- 1 if x is below n
abbrev pub below : ℕ → ℕ → ℕ
below x n = one_if (nat_lt x n)

-- how often x occurs in a list
abbrev pub times : ℕ → List ℕ → ℕ
times x [] = 0
times x (y ∷ ys) = one_if (x == y) + times x ys

-- the sum over all workers
abbrev pub total : (Worker → ℕ) → List Worker → ℕ
total f [] = 0
total f (v ∷ vs) = f v + total f vs

-- how often something was put at a stripe
abbrev pub put_at : ℕ → List (ℕ × ℕ) → ℕ
put_at j [] = 0
put_at j (p ∷ ps) = one_if (j == p.1) + put_at j ps

-- how often a chunk was put at a stripe
abbrev pub put_of : ℕ → ℕ → List (ℕ × ℕ) → ℕ
put_of c j [] = 0
put_of c j (p ∷ ps) = one_if ((c == p.0) && (j == p.1)) + put_of c j ps

-- a count of a turn, for a phase that has one
abbrev pub of_turn : (Turn → ℕ) → Phase → ℕ
of_turn f (Waits t) = f t
of_turn f (Served t) = f t
of_turn f (Lifted t) = f t
of_turn f (Laid t) = f t
of_turn f _ = 0

-- 1 if a chunk is held that is still to be put at stripe j
abbrev pub owes_at : ℕ → Phase → ℕ
owes_at j (Holds chunk stripe) = below stripe (j + 1)
owes_at j phase = of_turn (λ t. below t.stripe (j + 1)) phase

-- 1 if chunk c is held and is still to be put at stripe j
abbrev pub owes_of : ℕ → ℕ → Phase → ℕ
owes_of c j (Holds chunk stripe) = one_if ((c == chunk) && nat_lt stripe (j + 1))
owes_of c j phase = of_turn (λ t. one_if ((c == t.chunk) && nat_lt t.stripe (j + 1))) phase

-- 1 if a ticket of stripe j is held
abbrev pub ticket_at : ℕ → Phase → ℕ
ticket_at j phase = of_turn (λ t. one_if (j == t.stripe)) phase

-- 1 if the ticket n of stripe j is held
abbrev pub ticket_of : ℕ → ℕ → Phase → ℕ
ticket_of j n phase = of_turn (λ t. one_if ((j == t.stripe) && (n == t.ticket))) phase

-- 1 if chunk c was laid at stripe j, and the stripe isn't left yet
abbrev pub laid_of : ℕ → ℕ → Phase → ℕ
laid_of c j (Laid t) = one_if ((c == t.chunk) && (j == t.stripe))
laid_of c j _ = 0

-- the stripe that a worker in this phase has away
abbrev pub lifts : Phase → Option ℕ
lifts (Lifted t) = Some t.stripe
lifts _ = None

-- what the accounts are about: a machine without its inputs
pub record State : Type 0 where
  pub next : ℕ
  pub tickets : ℕ → ℕ
  pub serving : ℕ → ℕ
  pub book : ℕ → List ℕ
  pub away : ℕ → Option ℕ
  pub workers : List Worker

-- a worker has put each chunk that it drew once at each stripe, except the chunk that it holds: that one at the stripes
-- so far
pub record IsFair (stripes : ℕ) (v : Worker) : Type 0 where
  pub owed : (c j : ℕ) → j < stripes → put_of c j v.puts + owes_of c j v.phase ≡ times c v.draws
  pub owed_all : (j : ℕ) → j < stripes → put_at j v.puts + owes_at j v.phase ≡ length v.draws
  pub within : (c j : ℕ) → stripes ≤ j → put_of c j v.puts ≡ 0

-- a held chunk is at an existing stripe, and once a worker is served, its ticket is the one that is served
abbrev pub Knows : ℕ → (ℕ → ℕ) → Phase → Type 0
Knows stripes serving (Holds c j) = j < stripes
Knows stripes serving (Waits t) = t.stripe < stripes
Knows stripes serving (Served t) = (t.stripe < stripes) × (t.ticket ≡ serving t.stripe)
Knows stripes serving (Lifted t) = (t.stripe < stripes) × (t.ticket ≡ serving t.stripe)
Knows stripes serving (Laid t) = (t.stripe < stripes) × (t.ticket ≡ serving t.stripe)
Knows stripes serving _ = Unit {0}

-- worker w has stripe j away
abbrev pub HasLifted : List Worker → ℕ → ℕ → Type 0
HasLifted workers w j = (v : Worker) × (slice_get workers w ≡ Some v) × (lifts v.phase ≡ Some j)

-- the accounts of stripe j
pub record IsBalanced (s : State) (j : ℕ) : Type 0 where
  -- there were as many tickets served as puts
  pub served : total (λ v. put_at j v.puts) s.workers ≡ s.serving j
  -- the book has the chunks that were put here, and those that were laid here and not left yet
  pub booked : (c : ℕ) → times c (s.book j) ≡ total (λ v. put_of c j v.puts + laid_of c j v.phase) s.workers
  -- exactly the tickets from the served one on are held, each once
  pub held : (n : ℕ) → total (λ v. ticket_of j n v.phase) s.workers + below n (s.serving j) ≡ below n (s.tickets j)
  -- so there are as many tickets as puts and held tickets
  pub numbered : total (λ v. put_at j v.puts + ticket_at j v.phase) s.workers ≡ s.tickets j
  -- the stripe is away exactly with the worker that has lifted it
  pub lent : (w : ℕ) → s.away j ≡ Some w → HasLifted s.workers w j
  pub lends : (w : ℕ) → HasLifted s.workers w j → s.away j ≡ Some w

-- the accounts of a job with `chunks` chunks and `stripes` stripes
pub record Accounts (chunks stripes : ℕ) (s : State) : Type 0 where
  -- exactly the chunks below the next number are drawn, each once; so there are as many draws
  pub drawn : (c : ℕ) → total (λ v. times c v.draws) s.workers ≡ below c (min s.next chunks)
  pub drawn_all : total (λ v. length v.draws) s.workers ≡ min s.next chunks
  pub few : length s.workers ≤ 1024
  pub fair : (w : ℕ) (v : Worker) → slice_get s.workers w ≡ Some v → IsFair stripes v
  pub knows : (w : ℕ) (v : Worker) → slice_get s.workers w ≡ Some v → Knows stripes s.serving v.phase
  pub balanced : (j : ℕ) → j < stripes → IsBalanced s j

-- a machine without its inputs
abbrev pub state_of : Machine → State
state_of m = record {
  next = m.next;
  tickets = λ j. (stripe_at m j).tickets;
  serving = λ j. (stripe_at m j).serving;
  book = λ j. (stripe_at m j).book;
  away = λ j. (stripe_at m j).away;
  workers = m.workers;
}

-- a machine that satisfies the accounts for its job, and whose inputs are the batches of its books, in their order
pub record IsInOrder (job : FeedJob) (m : Machine) : Type 0 where
  pub wide : length m.stripes ≡ job.stripes
  pub accounts : Accounts (length job.chunks) job.stripes (state_of m)
  pub fed : (j : ℕ) → j < job.stripes → (stripe_at m j).inputs ≡ batches_of job.chunks job.stripes j (stripe_at m j).book
