-- Each event keeps a machine in order, and so does any list of events.
use Rattle.std.proofs.Common.{◌≡◌, ℕ, zero, suc, ◌+◌, ◌<◌, ◌≤◌, ◌≢◌, ◌==◌, nat_lt, ◌&&◌, not, Bool, true, false, if◌then◌else◌, min, List, [], ◌∷◌, ◌++◌, length, set, replicate, Option, Some, None, slice_get, sym, ◌∙◌, refl, ap, subst, arith, eq-eqb, ne_eqb, lt-ltb, le-ltb, ltb-true, length-set}
use Rattle.std.specs.Prelude.{IfSome, is_none, unwrap_or}
use Rattle.std.proofs.lemmas.Option.{none-some, same_Some}
use Rattle.std.proofs.lemmas.List.{flat_map_more, length-replicate}
use mathlib.Core.Logic.{dite}
use native.Mathlib.Decide.{ℕ_discrete, dec_lt}
use Rattle.gq_core.specs.declared.job.FeedJob.{FeedJob}
use Rattle.gq_core.specs.declared.stripe.Stripe.{Stripe}
use Rattle.gq_core.specs.declared.worker.Turn.{Turn}
use Rattle.gq_core.specs.declared.worker.Phase.{Phase}
use Rattle.gq_core.specs.declared.worker.Phase.TheVariants.{Idle, Ended, Holds, Waits, Served, Lifted, Laid, Joined}
use Rattle.gq_core.specs.declared.worker.Worker.{Worker}
use Rattle.gq_core.specs.declared.event.Event.{Event}
use Rattle.gq_core.specs.declared.event.Event.TheVariants.{Draw, Ticket, Look, Lift, Lay, Leave, Split, Join}
use Rattle.gq_core.specs.Batches.{batch_of, chunk_at, batches_of}
use Rattle.gq_core.specs.Machine.{Machine, fresh, newcomer, opening, worker_at, stripe_at, in_phase, with_worker, with_stripe, moved, draw, ticket, look, lift, laid, lay, behind, leave, is_live, is_free, split, gathered, join, happens, run}
use Rattle.gq_core.specs.Accounts.{below, times, lifts, IsFair, Knows, state_of, IsInOrder}
use Rattle.gq_core.proofs.TotalLemmas.{below_no, second_other, at_other}
use Rattle.gq_core.proofs.StripeLemmas.{quiet_idle, quiet_ended, quiet_holds}
use Rattle.gq_core.proofs.MoveLemmas.{ticket_keeps, look_keeps, lift_keeps, lay_keeps}
use Rattle.gq_core.proofs.LeaveLemmas.{IsBehind, leave_keeps}
use Rattle.gq_core.proofs.DrawLemmas.{IsPlain, draw_keeps, end_keeps, split_keeps, join_keeps}

-- a conditional, where the proof of each branch may use the test
choose : {A : Type 0} (P : A → Type 0) (t : Bool) (x y : A) → (t ≡ true → P x) → (t ≡ false → P y) → P (if t then x else y)
choose P true x y f g = f refl
choose P false x y f g = g refl

choose_same : {A : Type 0} (P : A → Type 0) (a b : ℕ) (x y : A) → (a ≡ b → P x) → P y → P (if a == b then x else y)
choose_same P a b x y f g = dite (ℕ_discrete a b)
    (λ (e : a ≡ b). choose P (a == b) x y (λ _. f e) (λ _. g))
    (λ (ne : a ≢ b). choose P (a == b) x y (λ t. let d : true ≡ false = sym t ∙ ne_eqb a b ne in cc) (λ _. g))

choose_below : {A : Type 0} (P : A → Type 0) (a b : ℕ) (x y : A) → (a < b → P x) → (b ≤ a → P y) → P (if nat_lt a b then x else y)
choose_below P a b x y f g = dite (dec_lt a b)
    (λ (h : a < b). choose P (nat_lt a b) x y (λ _. f h) (λ t. let d : true ≡ false = sym (lt-ltb a b h) ∙ t in cc))
    (λ (h : ¬ (a < b)). choose P (nat_lt a b) x y (λ t. let d : true ≡ false = sym t ∙ le-ltb a b (omega arith) in cc) (λ _. g (omega arith)))

both : (a b : Bool) → (a && b) ≡ true → (a ≡ true) × (b ≡ true)
both true b e = (refl, e)
both false b e = cc

-- a worker whose phase isn't Joined was made
pub made : (o : Option Worker) → (unwrap_or o (newcomer Joined)).phase ≢ Joined → o ≡ Some (unwrap_or o (newcomer Joined))
made None h = absurd (h refl)
made (Some v) h = refl

-- what holds of each stripe is kept if it is kept for the changed one
stays : {B : Type 0} (f : Stripe → B) (xs : List Stripe) (j : ℕ) (s : Stripe) → f s ≡ f (unwrap_or (slice_get xs j) fresh) → (i : ℕ) → f (unwrap_or (slice_get (set xs j s) i) fresh) ≡ f (unwrap_or (slice_get xs i) fresh)
stays f [] j s e i = refl
stays f (x ∷ xs) zero s e zero = e
stays f (x ∷ xs) zero s e (suc i) = refl
stays f (x ∷ xs) (suc j) s e zero = refl
stays f (x ∷ xs) (suc j) s e (suc i) = stays f xs j s e i

elsewhere : {B : Type 0} (f : Stripe → B) (xs : List Stripe) (j : ℕ) (s : Stripe) (i : ℕ) → i ≢ j → f (unwrap_or (slice_get (set xs j s) i) fresh) ≡ f (unwrap_or (slice_get xs i) fresh)
elsewhere f xs j s i ne = ap (λ o. f (unwrap_or o fresh)) (at_other xs j i s ne)

here : (xs : List Stripe) (j : ℕ) (s : Stripe) → j < length xs → unwrap_or (slice_get (set xs j s) j) fresh ≡ s
here [] j s h = absurd (omega arith)
here (x ∷ xs) zero s h = refl
here (x ∷ xs) (suc j) s h = here xs j s (omega arith)

-- a stripe with other numbers, but the same book and inputs
fed_same : (job : FeedJob) (m : Machine) → IsInOrder job m → (j : ℕ) (s : Stripe) → s.book ≡ (stripe_at m j).book → s.inputs ≡ (stripe_at m j).inputs
    → (i : ℕ) → i < job.stripes → (unwrap_or (slice_get (set m.stripes j s) i) fresh).inputs ≡ batches_of job.chunks job.stripes i (unwrap_or (slice_get (set m.stripes j s) i) fresh).book
fed_same job m r j s book inputs i h =
    stays (λ s. s.inputs) m.stripes j s inputs i ∙ (r.fed i h ∙ ap (batches_of job.chunks job.stripes i) (sym (stays (λ s. s.book) m.stripes j s book i)))

module _ (job : FeedJob) (m : Machine) (r : IsInOrder job m) (w : ℕ) where
  abbrev v : Worker
  v = worker_at m w

  was : v.phase ≢ Joined → slice_get m.workers w ≡ Some v
  was h = made (slice_get m.workers w) h

  known : (p : Phase) → v.phase ≡ p → p ≢ Joined → Knows job.stripes (state_of m).serving p
  known p e h = subst (Knows job.stripes (state_of m).serving) e (r.accounts.knows w v (was (λ q. h (sym e ∙ q))))

  draw_after : (p : Phase) → v.phase ≡ p → IfSome (draw job m w p) (IsInOrder job)
  draw_after Idle e =
      let live : slice_get m.workers w ≡ Some v = was (λ q. let d : Idle ≡ Joined = sym e ∙ q in cc) in
      choose_below (λ u. IsInOrder job (record (with_worker w u m) { next = m.next + 1 })) m.next (length job.chunks) (record v { phase = Holds m.next 0; draws = v.draws ++ m.next ∷ [] }) (in_phase Ended v)
      (λ h. record {
        wide = r.wide;
        accounts = draw_keeps (length job.chunks) job.stripes (state_of m) r.accounts w v live (state_of m).tickets (state_of m).serving (state_of m).book (state_of m).away e job.some h (λ i. refl) (λ i. refl) (λ i. refl) (λ i. refl);
        fed = r.fed;
      })
      (λ h. record {
        wide = r.wide;
        accounts = end_keeps (length job.chunks) job.stripes (state_of m) r.accounts w v live (state_of m).tickets (state_of m).serving (state_of m).book (state_of m).away e h (λ i. refl) (λ i. refl) (λ i. refl) (λ i. refl);
        fed = r.fed;
      })
  draw_after Ended e = tt
  draw_after (Holds c j) e = tt
  draw_after (Waits t) e = tt
  draw_after (Served t) e = tt
  draw_after (Lifted t) e = tt
  draw_after (Laid t) e = tt
  draw_after Joined e = tt

  ticket_after : (p : Phase) → v.phase ≡ p → IfSome (ticket m w p) (IsInOrder job)
  ticket_after (Holds c j) e =
      let live : slice_get m.workers w ≡ Some v = was (λ q. let d : Holds c j ≡ Joined = sym e ∙ q in cc) in
      let inside : j < job.stripes = known (Holds c j) e (λ q. cc) in
      let s : Stripe = stripe_at m j in let s' : Stripe = record s { tickets = s.tickets + 1 } in record {
        wide = length-set m.stripes j s' ∙ r.wide;
        accounts = ticket_keeps (length job.chunks) job.stripes (state_of m) r.accounts w v live c j
            (λ i. (unwrap_or (slice_get (set m.stripes j s') i) fresh).tickets) (λ i. (unwrap_or (slice_get (set m.stripes j s') i) fresh).serving)
            (λ i. (unwrap_or (slice_get (set m.stripes j s') i) fresh).book) (λ i. (unwrap_or (slice_get (set m.stripes j s') i) fresh).away) e
            (ap (λ (s : Stripe). s.tickets) (here m.stripes j s' (let l = r.wide in omega arith))) (elsewhere (λ s. s.tickets) m.stripes j s')
            (stays (λ s. s.serving) m.stripes j s' refl) (stays (λ s. s.book) m.stripes j s' refl) (stays (λ s. s.away) m.stripes j s' refl);
        fed = fed_same job m r j s' refl refl;
      }
  ticket_after Idle e = tt
  ticket_after Ended e = tt
  ticket_after (Waits t) e = tt
  ticket_after (Served t) e = tt
  ticket_after (Lifted t) e = tt
  ticket_after (Laid t) e = tt
  ticket_after Joined e = tt

  look_after : (p : Phase) → v.phase ≡ p → IfSome (look m w p) (IsInOrder job)
  look_after (Waits t) e =
      let live : slice_get m.workers w ≡ Some v = was (λ q. let d : Waits t ≡ Joined = sym e ∙ q in cc) in
      choose_same (IsInOrder job) t.ticket (stripe_at m t.stripe).serving (moved w (Served t) m) m
      (λ turn. record {
        wide = r.wide;
        accounts = look_keeps (length job.chunks) job.stripes (state_of m) r.accounts w v live t (state_of m).tickets (state_of m).serving (state_of m).book (state_of m).away e turn (λ i. refl) (λ i. refl) (λ i. refl) (λ i. refl);
        fed = r.fed;
      })
      r
  look_after Idle e = tt
  look_after Ended e = tt
  look_after (Holds c j) e = tt
  look_after (Served t) e = tt
  look_after (Lifted t) e = tt
  look_after (Laid t) e = tt
  look_after Joined e = tt

  lift_after : (p : Phase) → v.phase ≡ p → IfSome (lift m w p) (IsInOrder job)
  lift_after (Served t) e =
      let live : slice_get m.workers w ≡ Some v = was (λ q. let d : Served t ≡ Joined = sym e ∙ q in cc) in
      let inside : t.stripe < job.stripes = (known (Served t) e (λ q. cc)).0 in
      let j : ℕ = t.stripe in let s : Stripe = stripe_at m j in let s' : Stripe = record s { away = Some w } in
      choose (λ o. IfSome o (IsInOrder job)) (is_none s.away) (Some (with_stripe j s' (moved w (Lifted t) m))) None
      (λ home. record {
        wide = length-set m.stripes j s' ∙ r.wide;
        accounts = lift_keeps (length job.chunks) job.stripes (state_of m) r.accounts w v live t
            (λ i. (unwrap_or (slice_get (set m.stripes j s') i) fresh).tickets) (λ i. (unwrap_or (slice_get (set m.stripes j s') i) fresh).serving)
            (λ i. (unwrap_or (slice_get (set m.stripes j s') i) fresh).book) (λ i. (unwrap_or (slice_get (set m.stripes j s') i) fresh).away) e
            (at_home s.away home) (stays (λ s. s.tickets) m.stripes j s' refl) (stays (λ s. s.serving) m.stripes j s' refl) (stays (λ s. s.book) m.stripes j s' refl)
            (ap (λ (s : Stripe). s.away) (here m.stripes j s' (let l = r.wide in omega arith))) (elsewhere (λ s. s.away) m.stripes j s');
        fed = fed_same job m r j s' refl refl;
      })
      (λ _. tt)
    where
      at_home : (o : Option ℕ) → is_none o ≡ true → o ≡ None
      at_home None h = refl
      at_home (Some x) h = cc
  lift_after Idle e = tt
  lift_after Ended e = tt
  lift_after (Holds c j) e = tt
  lift_after (Waits t) e = tt
  lift_after (Lifted t) e = tt
  lift_after (Laid t) e = tt
  lift_after Joined e = tt

  lay_after : (p : Phase) → v.phase ≡ p → IfSome (lay job m w p) (IsInOrder job)
  lay_after (Lifted t) e =
      let live : slice_get m.workers w ≡ Some v = was (λ q. let d : Lifted t ≡ Joined = sym e ∙ q in cc) in
      let inside : t.stripe < job.stripes = (known (Lifted t) e (λ q. cc)).0 in
      let j : ℕ = t.stripe in let s : Stripe = stripe_at m j in let s' : Stripe = laid job t s in
      let at : unwrap_or (slice_get (set m.stripes j s') j) fresh ≡ s' = here m.stripes j s' (let l = r.wide in omega arith) in record {
        wide = length-set m.stripes j s' ∙ r.wide;
        accounts = lay_keeps (length job.chunks) job.stripes (state_of m) r.accounts w v live t
            (λ i. (unwrap_or (slice_get (set m.stripes j s') i) fresh).tickets) (λ i. (unwrap_or (slice_get (set m.stripes j s') i) fresh).serving)
            (λ i. (unwrap_or (slice_get (set m.stripes j s') i) fresh).book) (λ i. (unwrap_or (slice_get (set m.stripes j s') i) fresh).away) e
            (stays (λ s. s.tickets) m.stripes j s' refl) (stays (λ s. s.serving) m.stripes j s' refl)
            (ap (λ (s : Stripe). s.book) at) (elsewhere (λ s. s.book) m.stripes j s')
            (ap (λ (s : Stripe). s.away) at) (elsewhere (λ s. s.away) m.stripes j s');
        fed = λ i h. dite (ℕ_discrete i j)
            (λ (q : i ≡ j). subst (λ (k : ℕ). (unwrap_or (slice_get (set m.stripes j s') k) fresh).inputs ≡ batches_of job.chunks job.stripes k (unwrap_or (slice_get (set m.stripes j s') k) fresh).book) (sym q)
            (subst (λ (s : Stripe). s.inputs ≡ batches_of job.chunks job.stripes j s.book) (sym at)
            (ap (λ xs. xs ++ batch_of job.stripes j (chunk_at job.chunks t.chunk)) (r.fed j inside)
            ∙ flat_map_more (λ c. batch_of job.stripes j (chunk_at job.chunks c)) [] s.book t.chunk)))
            (λ (ne : i ≢ j). elsewhere (λ s. s.inputs) m.stripes j s' i ne ∙ (r.fed i h ∙ ap (batches_of job.chunks job.stripes i) (sym (elsewhere (λ s. s.book) m.stripes j s' i ne))));
      }
  lay_after Idle e = tt
  lay_after Ended e = tt
  lay_after (Holds c j) e = tt
  lay_after (Waits t) e = tt
  lay_after (Served t) e = tt
  lay_after (Laid t) e = tt
  lay_after Joined e = tt

  is_behind : (t : Turn) → t.stripe < job.stripes → IsBehind job.stripes t (behind job t)
  is_behind t inside = choose_below (IsBehind job.stripes t) (t.stripe + 1) job.stripes (Holds t.chunk (t.stripe + 1)) Idle
      (λ h. record { owes = λ c i _. refl; owes_all = λ i _. refl; knows = λ _. h; quiet = λ i. quiet_holds i t.chunk (t.stripe + 1) })
      (λ h. record {
        owes = λ c i less. sym (second_other (c == t.chunk) (nat_lt (t.stripe + 1) (i + 1)) (le-ltb (t.stripe + 1) (i + 1) (omega arith)));
        owes_all = λ i less. sym (below_no (t.stripe + 1) (i + 1) (omega arith));
        knows = λ _. tt;
        quiet = quiet_idle;
      })

  leave_after : (p : Phase) → v.phase ≡ p → IfSome (leave job m w p) (IsInOrder job)
  leave_after (Laid t) e =
      let live : slice_get m.workers w ≡ Some v = was (λ q. let d : Laid t ≡ Joined = sym e ∙ q in cc) in
      let inside : t.stripe < job.stripes = (known (Laid t) e (λ q. cc)).0 in
      let j : ℕ = t.stripe in let s : Stripe = stripe_at m j in let s' : Stripe = record s { serving = s.serving + 1 } in record {
        wide = length-set m.stripes j s' ∙ r.wide;
        accounts = leave_keeps (length job.chunks) job.stripes (state_of m) r.accounts w v live t
            (λ i. (unwrap_or (slice_get (set m.stripes j s') i) fresh).tickets) (λ i. (unwrap_or (slice_get (set m.stripes j s') i) fresh).serving)
            (λ i. (unwrap_or (slice_get (set m.stripes j s') i) fresh).book) (λ i. (unwrap_or (slice_get (set m.stripes j s') i) fresh).away)
            (behind job t) e (is_behind t inside)
            (stays (λ s. s.tickets) m.stripes j s' refl) (ap (λ (s : Stripe). s.serving) (here m.stripes j s' (let l = r.wide in omega arith))) (elsewhere (λ s. s.serving) m.stripes j s')
            (stays (λ s. s.book) m.stripes j s' refl) (stays (λ s. s.away) m.stripes j s' refl);
        fed = fed_same job m r j s' refl refl;
      }
  leave_after Idle e = tt
  leave_after Ended e = tt
  leave_after (Holds c j) e = tt
  leave_after (Waits t) e = tt
  leave_after (Served t) e = tt
  leave_after (Lifted t) e = tt
  leave_after Joined e = tt

-- a phase without a chunk
is_plain : (stripes : ℕ) (p : Phase) → is_free p ≡ true → IsPlain stripes p
is_plain stripes Idle h = record { owes = λ c i. refl; owes_all = λ i. refl; knows = λ _. tt; quiet = quiet_idle }
is_plain stripes Ended h = record { owes = λ c i. refl; owes_all = λ i. refl; knows = λ _. tt; quiet = quiet_ended }
is_plain stripes (Holds c j) h = cc
is_plain stripes (Waits t) h = cc
is_plain stripes (Served t) h = cc
is_plain stripes (Lifted t) h = cc
is_plain stripes (Laid t) h = cc
is_plain stripes Joined h = cc

pub not_joined : (p : Phase) → is_free p ≡ true → p ≢ Joined
not_joined p h e = let d : is_free Joined ≡ true = ap is_free (sym e) ∙ h in cc

split_after : (job : FeedJob) (m : Machine) → IsInOrder job m → (p : Phase) → IfSome (split m p) (IsInOrder job)
split_after job m r p = choose (λ o. IfSome o (IsInOrder job)) (is_live p && nat_lt (length m.workers) 1024) (Some (record m { workers = m.workers ++ newcomer Idle ∷ [] })) None
    (λ t. record {
      wide = r.wide;
      accounts = split_keeps (length job.chunks) job.stripes (state_of m) r.accounts (ltb-true (length m.workers) 1024 (both (is_live p) (nat_lt (length m.workers) 1024) t).1);
      fed = r.fed;
    })
    (λ _. tt)

join_after : (job : FeedJob) (m : Machine) → IsInOrder job m → (w x : ℕ) → IfSome (join m w x) (IsInOrder job)
join_after job m r w x =
    let v : Worker = worker_at m w in let u : Worker = worker_at m x in
    choose (λ o. IfSome o (IsInOrder job)) (not (w == x) && is_free v.phase && is_free u.phase) (Some (with_worker x (newcomer Joined) (with_worker w (gathered v u) m))) None
    (λ t. let a = both (not (w == x) && is_free v.phase) (is_free u.phase) t in let b = both (not (w == x)) (is_free v.phase) a.0 in record {
      wide = r.wide;
      accounts = join_keeps (length job.chunks) job.stripes (state_of m) r.accounts w x v u (made (slice_get m.workers w) (not_joined v.phase b.1)) (made (slice_get m.workers x) (not_joined u.phase a.1))
          (λ e. let d : not (w == x) ≡ false = ap not (eq-eqb w x (sym e)) in let c : true ≡ false = sym b.0 ∙ d in cc) (is_plain job.stripes v.phase b.1) (is_plain job.stripes u.phase a.1);
      fed = r.fed;
    })
    (λ _. tt)

-- each event
pub order_after : (job : FeedJob) (m : Machine) → IsInOrder job m → (e : Event) → IfSome (happens job m e) (IsInOrder job)
order_after job m r (Draw w) = draw_after job m r w (worker_at m w).phase refl
order_after job m r (Ticket w) = ticket_after job m r w (worker_at m w).phase refl
order_after job m r (Look w) = look_after job m r w (worker_at m w).phase refl
order_after job m r (Lift w) = lift_after job m r w (worker_at m w).phase refl
order_after job m r (Lay w) = lay_after job m r w (worker_at m w).phase refl
order_after job m r (Leave w) = leave_after job m r w (worker_at m w).phase refl
order_after job m r (Split w) = split_after job m r (worker_at m w).phase
order_after job m r (Join w x) = join_after job m r w x

kept : (job : FeedJob) (m : Machine) → IsInOrder job m → (o : Option Machine) → IfSome o (IsInOrder job) → IsInOrder job (unwrap_or o m)
kept job m r None h = r
kept job m r (Some x) h = h

-- any list of events
pub order_run : (job : FeedJob) (m : Machine) → IsInOrder job m → (es : List Event) → IsInOrder job (run job m es)
order_run job m r [] = r
order_run job m r (e ∷ es) = order_run job (unwrap_or (happens job m e) m) (kept job m r (happens job m e) (order_after job m r e)) es

-- the initial state
fresh_at : (n j : ℕ) → unwrap_or (slice_get (replicate n fresh) j) fresh ≡ fresh
fresh_at zero j = refl
fresh_at (suc n) zero = refl
fresh_at (suc n) (suc j) = fresh_at n j

pub order_opening : (job : FeedJob) → IsInOrder job (opening job)
order_opening job =
    let n : ℕ = job.stripes in let one : List Worker = newcomer Idle ∷ [] in
    let at : (j : ℕ) → unwrap_or (slice_get (replicate n fresh) j) fresh ≡ fresh = fresh_at n in record {
      wide = length-replicate n fresh;
      accounts = record {
        drawn = λ c. sym (below_no c (min 0 (length job.chunks)) (omega arith));
        drawn_all = omega arith;
        few = omega arith;
        fair = only (IsFair n) record { owed = λ c j h. refl; owed_all = λ j h. refl; within = λ c j h. refl };
        knows = only (λ v. Knows n (state_of (opening job)).serving v.phase) tt;
        balanced = λ j h. record {
          served = sym (ap (λ (s : Stripe). s.serving) (at j));
          booked = λ c. ap (times c) (ap (λ (s : Stripe). s.book) (at j));
          held = λ k. let e = ap (λ (s : Stripe). below k s.serving) (at j) in let f = ap (λ (s : Stripe). below k s.tickets) (at j) in omega arith;
          numbered = sym (ap (λ (s : Stripe). s.tickets) (at j));
          lent = λ k h. absurd (none-some k (sym (ap (λ (s : Stripe). s.away) (at j)) ∙ h));
          lends = λ k (x, there, lift). absurd (only (λ v. lifts v.phase ≢ Some j) (none-some j) k x there lift);
        };
      };
      fed = λ j h. ap (λ (s : Stripe). s.inputs) (at j) ∙ ap (batches_of job.chunks n j) (sym (ap (λ (s : Stripe). s.book) (at j)));
    }
  where
    only : (P : Worker → Type 0) → P (newcomer Idle) → (w : ℕ) (x : Worker) → slice_get (newcomer Idle ∷ []) w ≡ Some x → P x
    only P p zero x at = subst P (same_Some (newcomer Idle) x at) p
    only P p (suc w) x at = absurd (none-some x at)
