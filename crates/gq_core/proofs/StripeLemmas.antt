-- The accounts of a stripe are kept if a worker changes to one that counts the same there.
use Rattle.std.proofs.Common.{◌≡◌, ℕ, ◌+◌, ◌≢◌, ◌==◌, List, set, Option, Some, slice_get, sym, ◌∙◌, refl, ap, ap₂, ne_eqb}
use Rattle.std.proofs.lemmas.Option.{none-some, same_Some}
use mathlib.Core.Logic.{dite}
use native.Mathlib.Decide.{ℕ_discrete}
use Rattle.gq_core.specs.declared.worker.Turn.{Turn}
use Rattle.gq_core.specs.declared.worker.Phase.{Phase}
use Rattle.gq_core.specs.declared.worker.Phase.TheVariants.{Idle, Ended, Holds, Waits, Served, Lifted, Laid, Joined}
use Rattle.gq_core.specs.declared.worker.Worker.{Worker}
use Rattle.gq_core.specs.Accounts.{below, times, put_at, put_of, ticket_at, ticket_of, laid_of, lifts, State, HasLifted, IsBalanced}
use Rattle.gq_core.proofs.TotalLemmas.{is_other, first_other, second_other, at_same, at_other, each_set, total_same}

-- the phase counts for nothing at stripe i
pub record IsQuiet (i : ℕ) (p : Phase) : Type 0 where
  pub laid : (c : ℕ) → laid_of c i p ≡ 0
  pub ticket : ticket_at i p ≡ 0
  pub tickets : (n : ℕ) → ticket_of i n p ≡ 0
  pub lift : lifts p ≢ Some i

pub quiet_idle : (i : ℕ) → IsQuiet i Idle
quiet_idle i = record { laid = λ c. refl; ticket = refl; tickets = λ n. refl; lift = none-some i }

pub quiet_ended : (i : ℕ) → IsQuiet i Ended
quiet_ended i = record { laid = λ c. refl; ticket = refl; tickets = λ n. refl; lift = none-some i }

pub quiet_joined : (i : ℕ) → IsQuiet i Joined
quiet_joined i = record { laid = λ c. refl; ticket = refl; tickets = λ n. refl; lift = none-some i }

pub quiet_holds : (i c j : ℕ) → IsQuiet i (Holds c j)
quiet_holds i c j = record { laid = λ c. refl; ticket = refl; tickets = λ n. refl; lift = none-some i }

pub quiet_waits : (i : ℕ) (t : Turn) → i ≢ t.stripe → IsQuiet i (Waits t)
quiet_waits i t ne = record {
  laid = λ c. refl;
  ticket = is_other i t.stripe ne;
  tickets = λ n. first_other (i == t.stripe) (n == t.ticket) (ne_eqb i t.stripe ne);
  lift = none-some i;
}

pub quiet_served : (i : ℕ) (t : Turn) → i ≢ t.stripe → IsQuiet i (Served t)
quiet_served i t ne = record {
  laid = λ c. refl;
  ticket = is_other i t.stripe ne;
  tickets = λ n. first_other (i == t.stripe) (n == t.ticket) (ne_eqb i t.stripe ne);
  lift = none-some i;
}

pub quiet_lifted : (i : ℕ) (t : Turn) → i ≢ t.stripe → IsQuiet i (Lifted t)
quiet_lifted i t ne = record {
  laid = λ c. refl;
  ticket = is_other i t.stripe ne;
  tickets = λ n. first_other (i == t.stripe) (n == t.ticket) (ne_eqb i t.stripe ne);
  lift = λ e. ne (sym (same_Some t.stripe i e));
}

pub quiet_laid : (i : ℕ) (t : Turn) → i ≢ t.stripe → IsQuiet i (Laid t)
quiet_laid i t ne = record {
  laid = λ c. second_other (c == t.chunk) (i == t.stripe) (ne_eqb i t.stripe ne);
  ticket = is_other i t.stripe ne;
  tickets = λ n. first_other (i == t.stripe) (n == t.ticket) (ne_eqb i t.stripe ne);
  lift = none-some i;
}

-- two workers count the same at stripe i
pub record IsAlike (i : ℕ) (v u : Worker) : Type 0 where
  pub puts : put_at i u.puts ≡ put_at i v.puts
  pub puts_of : (c : ℕ) → put_of c i u.puts ≡ put_of c i v.puts
  pub laid : (c : ℕ) → laid_of c i u.phase ≡ laid_of c i v.phase
  pub ticket : ticket_at i u.phase ≡ ticket_at i v.phase
  pub tickets : (n : ℕ) → ticket_of i n u.phase ≡ ticket_of i n v.phase
  pub lift : lifts v.phase ≡ Some i → lifts u.phase ≡ Some i
  pub lift_back : lifts u.phase ≡ Some i → lifts v.phase ≡ Some i

pub alike_quiet : (i : ℕ) (v u : Worker) → IsQuiet i v.phase → IsQuiet i u.phase → put_at i u.puts ≡ put_at i v.puts → ((c : ℕ) → put_of c i u.puts ≡ put_of c i v.puts) → IsAlike i v u
alike_quiet i v u q q' puts puts_of = record {
  puts = puts;
  puts_of = puts_of;
  laid = λ c. q'.laid c ∙ sym (q.laid c);
  ticket = q'.ticket ∙ sym q.ticket;
  tickets = λ n. q'.tickets n ∙ sym (q.tickets n);
  lift = λ e. absurd (q.lift e);
  lift_back = λ e. absurd (q'.lift e);
}

-- which worker has a stripe away, after a change of one worker
pub lifted_set : (vs : List Worker) (w : ℕ) (v u : Worker) (i : ℕ) → slice_get vs w ≡ Some v → (lifts v.phase ≡ Some i → lifts u.phase ≡ Some i) → (k : ℕ) → HasLifted vs k i → HasLifted (set vs w u) k i
lifted_set vs w v u i was keeps k (x, at, lift) = dite (ℕ_discrete k w)
    (λ (e : k ≡ w). let same : x ≡ v = same_Some x v (sym at ∙ (ap (slice_get vs) e ∙ was)) in
    (u, ap (slice_get (set vs w u)) e ∙ at_same vs w v u was, keeps (ap (λ (y : Worker). lifts y.phase) (sym same) ∙ lift)))
    (λ (ne : k ≢ w). (x, at_other vs w k u ne ∙ at, lift))

pub lifted_unset : (vs : List Worker) (w : ℕ) (v u : Worker) (i : ℕ) → slice_get vs w ≡ Some v → (lifts u.phase ≡ Some i → lifts v.phase ≡ Some i) → (k : ℕ) → HasLifted (set vs w u) k i → HasLifted vs k i
lifted_unset vs w v u i was keeps k (x, at, lift) =
    each_set (λ (n : ℕ) (y : Worker). lifts y.phase ≡ Some i → HasLifted vs n i) vs w v u was (λ e. (v, was, keeps e)) (λ n y _ there e. (y, there, e)) k x at lift

-- if the numbers of stripe i are kept, so are its accounts
pub balanced_same : (s : State) (w : ℕ) (v u : Worker) → slice_get s.workers w ≡ Some v → (next : ℕ) (tickets serving : ℕ → ℕ) (book : ℕ → List ℕ) (away : ℕ → Option ℕ) (i : ℕ)
    → tickets i ≡ s.tickets i → serving i ≡ s.serving i → book i ≡ s.book i → away i ≡ s.away i → IsAlike i v u → IsBalanced s i
    → IsBalanced (record { next = next; tickets = tickets; serving = serving; book = book; away = away; workers = set s.workers w u }) i
balanced_same s w v u was next tickets serving book away i t e b a like r = record {
  served = total_same (λ v. put_at i v.puts) s.workers w v u was like.puts ∙ (r.served ∙ sym e);
  booked = λ c. ap (times c) b ∙ (r.booked c ∙ sym (total_same (λ v. put_of c i v.puts + laid_of c i v.phase) s.workers w v u was (ap₂ (λ (x y : ℕ). x + y) (like.puts_of c) (like.laid c))));
  held = λ n. ap₂ (λ (x y : ℕ). x + below n y) (total_same (λ v. ticket_of i n v.phase) s.workers w v u was (like.tickets n)) e ∙ (r.held n ∙ ap (below n) (sym t));
  numbered = total_same (λ v. put_at i v.puts + ticket_at i v.phase) s.workers w v u was (ap₂ (λ (x y : ℕ). x + y) like.puts like.ticket) ∙ (r.numbered ∙ sym t);
  lent = λ k h. lifted_set s.workers w v u i was like.lift k (r.lent k (sym a ∙ h));
  lends = λ k h. a ∙ r.lends k (lifted_unset s.workers w v u i was like.lift_back k h);
}
