-- What the code reads from a machine in order, and what the result of an event says of the machine after it.
use Rattle.std.proofs.Common.{◌≡◌, ℕ, ◌+◌, ◌<◌, ◌≤◌, ◌≢◌, ◌==◌, ◌&&◌, nat_lt, min, Bool, true, false, not, List, [], ◌∷◌, ◌++◌, length, set, get_or, if◌then◌else◌, Option, Some, None, slice_get, Result, Ok, Err, sym, ◌∙◌, refl, ap, ap₂, subst, arith, eq-eqb, ne_eqb, get_or-set_other}
use Rattle.std.specs.Prelude.{IfOk, OnErr, IfSome, is_some, is_none, unwrap_or}
use Rattle.std.proofs.lemmas.Option.{slice_get_within, slice_get_read}
use Rattle.std.proofs.lemmas.List.{set_comm, set-get_or, set-set}
use mathlib.Core.Logic.{dite}
use native.Mathlib.Decide.{ℕ_discrete, dec_lt}
use Rattle.gq_core.specs.declared.job.FeedJob.{FeedJob}
use Rattle.gq_core.specs.declared.stripe.Stripe.{Stripe}
use Rattle.gq_core.specs.declared.worker.Turn.{Turn}
use Rattle.gq_core.specs.declared.worker.Phase.{Phase}
use Rattle.gq_core.specs.declared.worker.Phase.TheVariants.{Idle, Ended, Holds, Waits, Served, Lifted, Laid, Joined}
use Rattle.gq_core.specs.declared.worker.Worker.{Worker}
use Rattle.gq_core.specs.Machine.{Machine, fresh, newcomer, worker_at, stripe_at, in_phase, with_worker, with_stripe, moved, is_free, gathered, join, ticket, lift, laid, lay, behind, leave, Tells}
use Rattle.gq_core.specs.Accounts.{one_if, below, times, put_at, owes_at, owes_of, ticket_at, ticket_of, Knows, state_of, IsInOrder}
use Rattle.gq_core.proofs.TotalLemmas.{is_same, is_other, below_yes, below_no, first_same, total_at, total_lt}
use Rattle.gq_core.proofs.OrderLemmas.{made, not_joined}

here_owed : (j i : ℕ) → one_if (j == i) ≤ below i (j + 1)
here_owed j i = dite (ℕ_discrete j i)
    (λ (e : j ≡ i). let a = is_same j i e in let b = below_yes i (j + 1) (omega arith) in omega arith)
    (λ (ne : j ≢ i). let a = is_other j i ne in omega arith)

-- a worker with a ticket owes the put
ticket_owed : (j : ℕ) (p : Phase) → ticket_at j p ≤ owes_at j p
ticket_owed j Idle = omega arith
ticket_owed j Ended = omega arith
ticket_owed j (Holds c i) = omega arith
ticket_owed j (Waits t) = here_owed j t.stripe
ticket_owed j (Served t) = here_owed j t.stripe
ticket_owed j (Lifted t) = here_owed j t.stripe
ticket_owed j (Laid t) = here_owed j t.stripe
ticket_owed j Joined = omega arith

module _ (job : FeedJob) (m : Machine) (r : IsInOrder job m) (w : ℕ) where
  at : (worker_at m w).phase ≢ Joined → slice_get m.workers w ≡ Some (worker_at m w)
  at h = made (slice_get m.workers w) h

  knows : (p : Phase) → (worker_at m w).phase ≡ p → p ≢ Joined → Knows job.stripes (state_of m).serving p
  knows p e h = subst (Knows job.stripes (state_of m).serving) e (r.accounts.knows w (worker_at m w) (at (λ q. h (sym e ∙ q))))

  -- a stripe gives at most as many tickets as there are chunks
  pub tickets_below : (c j : ℕ) → (worker_at m w).phase ≡ Holds c j → (stripe_at m j).tickets < length job.chunks
  tickets_below c j e =
      let v : Worker = worker_at m w in let here = at (λ q. let d : Holds c j ≡ Joined = sym e ∙ q in cc) in
      let inside : j < job.stripes = knows (Holds c j) e (λ q. cc) in
      let mine = (r.accounts.fair w v here).owed_all j inside in let a = ap (ticket_at j) e in let b = ap (owes_at j) e in let d = below_yes j (j + 1) (omega arith) in
      let less = total_lt (λ v. put_at j v.puts + ticket_at j v.phase) (λ v. length v.draws) m.workers
      (λ k u there. let f = (r.accounts.fair k u there).owed_all j inside in let t = ticket_owed j u.phase in omega arith) w v here (omega arith) in
      let numbered = (r.accounts.balanced j inside).numbered in let all = r.accounts.drawn_all in omega arith

  -- a worker that has laid a chunk has a ticket
  pub serving_below : (t : Turn) → (worker_at m w).phase ≡ Laid t → (stripe_at m t.stripe).serving < (stripe_at m t.stripe).tickets
  serving_below t e =
      let v : Worker = worker_at m w in let j : ℕ = t.stripe in let n : ℕ = (stripe_at m j).serving in let here = at (λ q. let d : Laid t ≡ Joined = sym e ∙ q in cc) in
      let known = knows (Laid t) e (λ q. cc) in let held = (r.accounts.balanced j known.0).held n in
      let a = ap (ticket_of j n) e in let b = first_same (j == j) (n == t.ticket) (eq-eqb j j refl) in let d = is_same n t.ticket (sym known.1) in
      let some = total_at (λ v. ticket_of j n v.phase) m.workers w v here in
      dite (dec_lt n (stripe_at m j).tickets) (λ h. h) (λ (h : ¬ (n < (stripe_at m j).tickets)). let z = below_no n (stripe_at m j).tickets (omega arith) in absurd (omega arith))

  -- a lifted chunk is one of the job's
  pub chunk_below : (t : Turn) → (worker_at m w).phase ≡ Lifted t → t.chunk < length job.chunks
  chunk_below t e =
      let v : Worker = worker_at m w in let j : ℕ = t.stripe in let c : ℕ = t.chunk in let here = at (λ q. let d : Lifted t ≡ Joined = sym e ∙ q in cc) in
      let known = knows (Lifted t) e (λ q. cc) in let owed = (r.accounts.fair w v here).owed c j known.0 in
      let a = ap (owes_of c j) e in let b = first_same (c == c) (nat_lt j (j + 1)) (eq-eqb c c refl) in let d = below_yes j (j + 1) (omega arith) in
      let some = total_at (λ v. times c v.draws) m.workers w v here in let drawn = r.accounts.drawn c in
      dite (dec_lt c (length job.chunks)) (λ h. h) (λ (h : ¬ (c < length job.chunks)). let z = below_no c (min m.next (length job.chunks)) (omega arith) in absurd (omega arith))

  pub holds_within : (c j : ℕ) → (worker_at m w).phase ≡ Holds c j → j < length m.stripes
  holds_within c j e = let k : j < job.stripes = knows (Holds c j) e (λ q. cc) in let l = r.wide in omega arith

  pub served_within : (t : Turn) → (worker_at m w).phase ≡ Served t → t.stripe < length m.stripes
  served_within t e = let k : t.stripe < job.stripes = (knows (Served t) e (λ q. cc)).0 in let l = r.wide in omega arith

  pub lifted_within : (t : Turn) → (worker_at m w).phase ≡ Lifted t → t.stripe < length m.stripes
  lifted_within t e = let k : t.stripe < job.stripes = (knows (Lifted t) e (λ q. cc)).0 in let l = r.wide in omega arith

  pub laid_within : (t : Turn) → (worker_at m w).phase ≡ Laid t → t.stripe < length m.stripes
  laid_within t e = let k : t.stripe < job.stripes = (knows (Laid t) e (λ q. cc)).0 in let l = r.wide in omega arith

-- a worker whose phase isn't Joined was made
pub made_within : (m : Machine) (w : ℕ) (p : Phase) → (worker_at m w).phase ≡ p → p ≢ Joined → w < length m.workers
made_within m w p e h = slice_get_within m.workers w (worker_at m w) (made (slice_get m.workers w) (λ q. h (sym e ∙ q)))

-- and so was a free worker, which is live and holds no chunk
pub free_within : (m : Machine) (w : ℕ) → is_free (worker_at m w).phase ≡ true → w < length m.workers
free_within m w free = made_within m w (worker_at m w).phase refl (not_joined (worker_at m w).phase free)

-- the machine after an event is in order, whatever the event's result
pub tells_order : (job : FeedJob) (m m' : Machine) (o : Option Machine) (b : Bool) → IsInOrder job m → IfSome o (IsInOrder job) → Tells o b m m' → IsInOrder job m'
tells_order job m m' None b r after told = subst (IsInOrder job) (sym told.1) r
tells_order job m m' (Some x) b r after told = subst (IsInOrder job) (sym told.1) after

pub answer_order : {E : Type 0} (job : FeedJob) (m m' : Machine) (o : Option Machine) (answer : Result Bool E) → IsInOrder job m → IfSome o (IsInOrder job)
    → IfOk answer (λ b. Tells o b m m') → OnErr answer (m' ≡ m) → IsInOrder job m'
answer_order job m m' o (Ok b) r after told same = tells_order job m m' o b r after told
answer_order job m m' o (Err e) r after told same = subst (IsInOrder job) (sym same) r

-- what the result of an event says, with the machine given by its parts
module _ (next : ℕ) (ss : List Stripe) (ws : List Worker) (w : ℕ) where
  abbrev pub whole : Machine
  whole = record { next = next; stripes = ss; workers = ws }

  pub stripe_read : (j : ℕ) (s : Stripe) → j < length ss → s ≡ get_or ss j s → stripe_at whole j ≡ s
  stripe_read j s h is = ap (λ o. unwrap_or o fresh) (slice_get_read ss (length ss) j s refl h is)

  pub worker_read : (x : ℕ) (v : Worker) → x < length ws → v ≡ get_or ws x v → worker_at whole x ≡ v
  worker_read x v h is = ap (λ o. unwrap_or o (newcomer Joined)) (slice_get_read ws (length ws) x v refl h is)

  pub ticket_told : (c j n : ℕ) (s s' : Stripe) (v : Worker) → (worker_at whole w).phase ≡ Holds c j → j < length ss → w < length ws → s ≡ get_or ss j s → v ≡ get_or ws w v
      → n ≡ s.tickets → s' ≡ record s { tickets = s.tickets + 1 }
      → Tells (ticket whole w (worker_at whole w).phase) true whole (record { next = next; stripes = set ss j s'; workers = set ws w (in_phase (Waits (record { chunk = c; stripe = j; ticket = n })) v) })
  ticket_told c j n s s' v e inside made is_s is_v same up =
      subst (λ p. Tells (ticket whole w p) true whole (record { next = next; stripes = set ss j s'; workers = set ws w (in_phase (Waits (record { chunk = c; stripe = j; ticket = n })) v) })) (sym e) (
        refl,
        ap₂ (λ (x : Stripe) (k : ℕ). record { next = next; stripes = set ss j x; workers = set ws w (in_phase (Waits (record { chunk = c; stripe = j; ticket = k })) v) }) up same
            ∙ ap₂ (λ (x : Stripe) (y : Worker). record { next = next; stripes = set ss j (record x { tickets = x.tickets + 1 }); workers = set ws w (in_phase (Waits (record { chunk = c; stripe = j; ticket = x.tickets })) y) })
            (sym (stripe_read j s inside is_s)) (sym (worker_read w v made is_v)),
      )

  pub lift_told : (t : Turn) (s : Stripe) (v : Worker) → (worker_at whole w).phase ≡ Served t → t.stripe < length ss → w < length ws → s ≡ get_or ss t.stripe s → v ≡ get_or ws w v → is_some s.away ≡ false
      → Tells (lift whole w (worker_at whole w).phase) true whole (record { next = next; stripes = set ss t.stripe (record s { away = Some w }); workers = set ws w (in_phase (Lifted t) v) })
  lift_told t s v e inside made is_s is_v home =
      let new : Machine = record { next = next; stripes = set ss t.stripe (record s { away = Some w }); workers = set ws w (in_phase (Lifted t) v) } in
      subst (λ p. Tells (lift whole w p) true whole new) (sym e)
      (subst (λ (y : Worker). Tells (if is_none (stripe_at whole t.stripe).away then Some (record { next = next; stripes = set ss t.stripe (record (stripe_at whole t.stripe) { away = Some w }); workers = set ws w (in_phase (Lifted t) y) }) else None) true whole new) (sym (worker_read w v made is_v))
      (subst (λ (x : Stripe). Tells (if is_none x.away then Some (record { next = next; stripes = set ss t.stripe (record x { away = Some w }); workers = set ws w (in_phase (Lifted t) v) }) else None) true whole new) (sym (stripe_read t.stripe s inside is_s))
      (subst (λ b. Tells (if b then Some new else None) true whole new) (sym (none_from s.away home)) (refl, refl))))
    where
      none_from : (o : Option ℕ) → is_some o ≡ false → is_none o ≡ true
      none_from None h = refl
      none_from (Some x) h = cc

  pub lift_refused : (t : Turn) (s : Stripe) → (worker_at whole w).phase ≡ Served t → t.stripe < length ss → s ≡ get_or ss t.stripe s → is_some s.away ≡ true → Tells (lift whole w (worker_at whole w).phase) false whole whole
  lift_refused t s e inside is_s gone =
      subst (λ p. Tells (lift whole w p) false whole whole) (sym e)
      (subst (λ b. Tells (if b then Some (with_stripe t.stripe (record (stripe_at whole t.stripe) { away = Some w }) (moved w (Lifted t) whole)) else None) false whole whole)
      (sym (ap (λ (x : Stripe). is_none x.away) (stripe_read t.stripe s inside is_s) ∙ some_from s.away gone)) (refl, refl))
    where
      some_from : (o : Option ℕ) → is_some o ≡ true → is_none o ≡ false
      some_from None h = cc
      some_from (Some x) h = refl

  pub lay_told : (job : FeedJob) (t : Turn) (s s' : Stripe) (v : Worker) → (worker_at whole w).phase ≡ Lifted t → t.stripe < length ss → w < length ws → s ≡ get_or ss t.stripe s → v ≡ get_or ws w v → s' ≡ laid job t s
      → Tells (lay job whole w (worker_at whole w).phase) true whole (record { next = next; stripes = set ss t.stripe s'; workers = set ws w (in_phase (Laid t) v) })
  lay_told job t s s' v e inside made is_s is_v up =
      subst (λ p. Tells (lay job whole w p) true whole (record { next = next; stripes = set ss t.stripe s'; workers = set ws w (in_phase (Laid t) v) })) (sym e) (
        refl,
        ap₂ (λ (x : Stripe) (y : Worker). record { next = next; stripes = set ss t.stripe x; workers = set ws w (in_phase (Laid t) y) })
            (up ∙ ap (laid job t) (sym (stripe_read t.stripe s inside is_s))) (sym (worker_read w v made is_v)),
      )

  pub leave_told : (job : FeedJob) (t : Turn) (s : Stripe) (v v' : Worker) (p : Phase) → (worker_at whole w).phase ≡ Laid t → t.stripe < length ss → w < length ws → s ≡ get_or ss t.stripe s → v ≡ get_or ws w v
      → p ≡ behind job t → v' ≡ record { phase = p; draws = v.draws; puts = v.puts ++ (t.chunk, t.stripe) ∷ [] }
      → Tells (leave job whole w (worker_at whole w).phase) true whole (record { next = next; stripes = set ss t.stripe (record s { serving = s.serving + 1 }); workers = set ws w v' })
  leave_told job t s v v' p e inside made is_s is_v goes up =
      subst (λ p. Tells (leave job whole w p) true whole (record { next = next; stripes = set ss t.stripe (record s { serving = s.serving + 1 }); workers = set ws w v' })) (sym e) (
        refl,
        ap₂ (λ (x : Stripe) (y : Worker). record { next = next; stripes = set ss t.stripe (record x { serving = x.serving + 1 }); workers = set ws w y })
            (sym (stripe_read t.stripe s inside is_s))
            (up ∙ ap₂ (λ (q : Phase) (y : Worker). record { phase = q; draws = y.draws; puts = y.puts ++ (t.chunk, t.stripe) ∷ [] }) goes (sym (worker_read w v made is_v))),
      )

  -- reading an index twice yields the same
  pub stripe_twice : (j : ℕ) (s t : Stripe) → j < length ss → s ≡ get_or ss j s → t ≡ get_or ss j t → t ≡ s
  stripe_twice j s t h is_s is_t = sym (stripe_read j t h is_t) ∙ stripe_read j s h is_s

  pub join_told : (x : ℕ) (v u n g : Worker) → w ≢ x → is_free (worker_at whole w).phase ≡ true → is_free (worker_at whole x).phase ≡ true → w < length ws → x < length ws
      → v ≡ get_or (set ws x n) w v → u ≡ get_or ws x u → n ≡ newcomer Joined → g ≡ gathered v u
      → Tells (join whole w x) true whole (record { next = next; stripes = ss; workers = set (set ws x n) w g })
  join_told x v u n g apart free_w free_x made_w made_x is_v is_u is_n is_g =
      let new : Machine = record { next = next; stripes = ss; workers = set (set ws x n) w g } in
      let all : (not (w == x) && is_free (worker_at whole w).phase && is_free (worker_at whole x).phase) ≡ true = ap₂ (λ a b. a && b) (ap₂ (λ a b. a && b) (ap not (ne_eqb w x apart)) free_w) free_x in
      let read_w : worker_at whole w ≡ v = worker_read w v made_w (is_v ∙ get_or-set_other ws x w n v apart) in
      let read_x : worker_at whole x ≡ u = worker_read x u made_x is_u in
      let same : g ≡ gathered (worker_at whole w) (worker_at whole x) = is_g ∙ ap₂ gathered (sym read_w) (sym read_x) in
      subst (λ b. Tells (if b then Some (with_worker x (newcomer Joined) (with_worker w (gathered (worker_at whole w) (worker_at whole x)) whole)) else None) true whole new) (sym all)
      (refl, ap (λ zs. record { next = next; stripes = ss; workers = zs }) (set_comm ws x w n g (λ e. apart (sym e)) ∙ ap₂ (λ (a b : Worker). set (set ws w a) x b) same is_n))

  -- an item that was taken out is put back
  pub put_back : (x : ℕ) (v n g u : Worker) → w ≢ x → v ≡ get_or (set ws x n) w v → g ≡ v → u ≡ get_or ws x u → set (set (set ws x n) w g) x u ≡ ws
  put_back x v n g u apart is_v is_g is_u =
      ap (λ zs. set zs x u) (ap (set (set ws x n) w) (is_g ∙ is_v) ∙ set-get_or (set ws x n) w v)
      ∙ (set-set ws x n u ∙ (ap (set ws x) is_u ∙ set-get_or ws x u))
