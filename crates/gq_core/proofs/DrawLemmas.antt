-- Draw, Split and Join preserve the accounts.
use Rattle.std.proofs.Common.{◌≡◌, ℕ, zero, suc, ◌+◌, ◌<◌, ◌≤◌, ◌≢◌, ◌==◌, nat_lt, min, List, [], ◌∷◌, ◌++◌, length, set, Option, Some, slice_get, sym, ◌∙◌, refl, ap, subst, arith, lt-ltb, length-set, length-append}
use Rattle.std.proofs.lemmas.Option.{none-some}
use Rattle.gq_core.specs.declared.worker.Phase.{Phase}
use Rattle.gq_core.specs.declared.worker.Phase.TheVariants.{Idle, Ended, Holds, Joined}
use Rattle.gq_core.specs.declared.worker.Worker.{Worker}
use Rattle.gq_core.specs.Machine.{in_phase, newcomer, gathered}
use Rattle.gq_core.specs.Accounts.{below, times, total, put_at, put_of, owes_at, owes_of, ticket_at, ticket_of, laid_of, lifts, State, IsFair, Knows, HasLifted, Accounts}
use Rattle.gq_core.proofs.TotalLemmas.{below_yes, below-next, second_same, at_other, each_set, each_more, total-set, total_same, total-snoc, times-append, put_at-append, put_of-append}
use Rattle.gq_core.proofs.StripeLemmas.{IsQuiet, quiet_idle, quiet_ended, quiet_holds, alike_quiet, lifted_set, lifted_unset, balanced_same}
use Rattle.gq_core.proofs.MoveLemmas.{knows_same}

module _ (chunks stripes : ℕ) (s : State) (r : Accounts chunks stripes s) (w : ℕ) (v : Worker) (was : slice_get s.workers w ≡ Some v) where
  -- an idle worker changes its phase, and the next number increases
  draws : (n : ℕ) (tickets serving : ℕ → ℕ) (book : ℕ → List ℕ) (away : ℕ → Option ℕ) (u : Worker) → v.phase ≡ Idle → u.puts ≡ v.puts → ((i : ℕ) → IsQuiet i u.phase) → IsFair stripes u → Knows stripes serving u.phase
      → ((i : ℕ) → tickets i ≡ s.tickets i) → ((i : ℕ) → serving i ≡ s.serving i) → ((i : ℕ) → book i ≡ s.book i) → ((i : ℕ) → away i ≡ s.away i)
      → ((c : ℕ) → total (λ v. times c v.draws) (set s.workers w u) ≡ below c (min n chunks)) → total (λ v. length v.draws) (set s.workers w u) ≡ min n chunks
      → Accounts chunks stripes (record { next = n; tickets = tickets; serving = serving; book = book; away = away; workers = set s.workers w u })
  draws n tickets serving book away u phase puts quiet fair knows numbers served books aways drawn drawn_all = record {
    drawn = drawn;
    drawn_all = drawn_all;
    few = subst (λ (n : ℕ). n ≤ 1024) (sym (length-set s.workers w u)) r.few;
    fair = each_set (λ (i : ℕ) (x : Worker). IsFair stripes x) s.workers w v u was fair (λ i x _ at. r.fair i x at);
    knows = each_set (λ (i : ℕ) (x : Worker). Knows stripes serving x.phase) s.workers w v u was knows (λ i x _ at. knows_same stripes s.serving serving served x.phase (r.knows i x at));
    balanced = λ i h. balanced_same s w v u was n tickets serving book away i (numbers i) (served i) (books i) (aways i)
        (alike_quiet i v u (subst (IsQuiet i) (sym phase) (quiet_idle i)) (quiet i) (ap (put_at i) puts) (λ c. ap (put_of c i) puts)) (r.balanced i h);
  }

  pub draw_keeps : (tickets serving : ℕ → ℕ) (book : ℕ → List ℕ) (away : ℕ → Option ℕ) → v.phase ≡ Idle → 0 < stripes → s.next < chunks
      → ((i : ℕ) → tickets i ≡ s.tickets i) → ((i : ℕ) → serving i ≡ s.serving i) → ((i : ℕ) → book i ≡ s.book i) → ((i : ℕ) → away i ≡ s.away i)
      → Accounts chunks stripes (record { next = s.next + 1; tickets = tickets; serving = serving; book = book; away = away; workers = set s.workers w (record { phase = Holds s.next 0; draws = v.draws ++ s.next ∷ []; puts = v.puts }) })
  draw_keeps tickets serving book away phase some more numbers served books aways =
      let x : ℕ = s.next in let u : Worker = record { phase = Holds x 0; draws = v.draws ++ x ∷ []; puts = v.puts } in let fair = r.fair w v was in
      draws (x + 1) tickets serving book away u phase refl (λ i. quiet_holds i x 0)
      record {
        owed = λ c j h. let f = fair.owed c j h in let e = ap (owes_of c j) phase in let b = second_same (c == x) (nat_lt 0 (j + 1)) (lt-ltb 0 (j + 1) (omega arith)) in let l = times-append c v.draws (x ∷ []) in omega arith;
        owed_all = λ j h. let f = fair.owed_all j h in let e = ap (owes_at j) phase in let b = below_yes 0 (j + 1) (omega arith) in let l = length-append v.draws (x ∷ []) in omega arith;
        within = fair.within;
      }
      some numbers served books aways
      (λ c. let t = total-set (λ v. times c v.draws) s.workers w v u was in let l = times-append c v.draws (x ∷ []) in let d = r.drawn c in let b = below-next c x in
      let m : min x chunks ≡ x = omega arith in let m' : min (x + 1) chunks ≡ x + 1 = omega arith in
      let d' : total (λ v. times c v.draws) s.workers ≡ below c x = d ∙ ap (below c) m in
      let goal : total (λ v. times c v.draws) (set s.workers w u) ≡ below c (x + 1) = omega arith in goal ∙ ap (below c) (sym m'))
      (let t = total-set (λ v. length v.draws) s.workers w v u was in let l = length-append v.draws (x ∷ []) in let d = r.drawn_all in omega arith)

  pub end_keeps : (tickets serving : ℕ → ℕ) (book : ℕ → List ℕ) (away : ℕ → Option ℕ) → v.phase ≡ Idle → chunks ≤ s.next
      → ((i : ℕ) → tickets i ≡ s.tickets i) → ((i : ℕ) → serving i ≡ s.serving i) → ((i : ℕ) → book i ≡ s.book i) → ((i : ℕ) → away i ≡ s.away i)
      → Accounts chunks stripes (record { next = s.next + 1; tickets = tickets; serving = serving; book = book; away = away; workers = set s.workers w (in_phase Ended v) })
  end_keeps tickets serving book away phase past numbers served books aways =
      let x : ℕ = s.next in let u : Worker = in_phase Ended v in let fair = r.fair w v was in
      let same : min (x + 1) chunks ≡ min x chunks = omega arith in
      draws (x + 1) tickets serving book away u phase refl quiet_ended
      record {
        owed = λ c j h. let f = fair.owed c j h in let e = ap (owes_of c j) phase in omega arith;
        owed_all = λ j h. let f = fair.owed_all j h in let e = ap (owes_at j) phase in omega arith;
        within = fair.within;
      }
      tt numbers served books aways
      (λ c. total_same (λ v. times c v.draws) s.workers w v u was refl ∙ (r.drawn c ∙ ap (below c) (sym same)))
      (total_same (λ v. length v.draws) s.workers w v u was refl ∙ (r.drawn_all ∙ sym same))

-- one more worker
lifted_more : (vs : List Worker) (u : Worker) (i k : ℕ) → HasLifted vs k i → HasLifted (vs ++ u ∷ []) k i
lifted_more vs u i k (x, at, lift) = (x, at_before vs u k x at, lift)
  where
    at_before : (vs : List Worker) (u : Worker) (k : ℕ) (x : Worker) → slice_get vs k ≡ Some x → slice_get (vs ++ u ∷ []) k ≡ Some x
    at_before [] u k x at = absurd (none-some x at)
    at_before (y ∷ ys) u zero x at = at
    at_before (y ∷ ys) u (suc k) x at = at_before ys u k x at

pub split_keeps : (chunks stripes : ℕ) (s : State) → Accounts chunks stripes s → length s.workers < 1024
    → Accounts chunks stripes (record { next = s.next; tickets = s.tickets; serving = s.serving; book = s.book; away = s.away; workers = s.workers ++ newcomer Idle ∷ [] })
split_keeps chunks stripes s r few =
    let u : Worker = newcomer Idle in
    let same : (f : Worker → ℕ) → f u ≡ 0 → total f (s.workers ++ u ∷ []) ≡ total f s.workers = λ f e. let t = total-snoc f s.workers u in omega arith in record {
      drawn = λ c. same (λ v. times c v.draws) refl ∙ r.drawn c;
      drawn_all = same (λ v. length v.draws) refl ∙ r.drawn_all;
      few = let l = length-append s.workers (u ∷ []) in omega arith;
      fair = each_more (λ (i : ℕ) (x : Worker). IsFair stripes x) s.workers u record { owed = λ c j h. refl; owed_all = λ j h. refl; within = λ c j h. refl } r.fair;
      knows = each_more (λ (i : ℕ) (x : Worker). Knows stripes s.serving x.phase) s.workers u tt r.knows;
      balanced = λ i h. let b = r.balanced i h in record {
        served = same (λ v. put_at i v.puts) refl ∙ b.served;
        booked = λ c. b.booked c ∙ sym (same (λ v. put_of c i v.puts + laid_of c i v.phase) refl);
        held = λ n. ap (λ (x : ℕ). x + below n (s.serving i)) (same (λ v. ticket_of i n v.phase) refl) ∙ b.held n;
        numbered = same (λ v. put_at i v.puts + ticket_at i v.phase) refl ∙ b.numbered;
        lent = λ k h. lifted_more s.workers u i k (b.lent k h);
        lends = λ k (x, at, lift). each_more (λ (n : ℕ) (y : Worker). lifts y.phase ≡ Some i → s.away i ≡ Some n) s.workers u (λ q. absurd (none-some i q)) (λ n y there q. b.lends n (y, there, q)) k x at lift;
      };
    }

-- a phase without a chunk and a ticket
pub record IsPlain (stripes : ℕ) (p : Phase) : Type 0 where
  pub owes : (c i : ℕ) → owes_of c i p ≡ 0
  pub owes_all : (i : ℕ) → owes_at i p ≡ 0
  pub knows : (serving : ℕ → ℕ) → Knows stripes serving p
  pub quiet : (i : ℕ) → IsQuiet i p

module _ (chunks stripes : ℕ) (s : State) (r : Accounts chunks stripes s) (w x : ℕ) (v u : Worker) (was : slice_get s.workers w ≡ Some v) (other : slice_get s.workers x ≡ Some u) (apart : x ≢ w) where
  -- the second worker is unchanged after the first has changed
  there : slice_get (set s.workers w (gathered v u)) x ≡ Some u
  there = at_other s.workers w x (gathered v u) apart ∙ other

  -- the first has what both had, and the second has nothing
  joined : (f : Worker → ℕ) → f (gathered v u) ≡ f v + f u → f (newcomer Joined) ≡ 0 → total f (set (set s.workers w (gathered v u)) x (newcomer Joined)) ≡ total f s.workers
  joined f both none = let a = total-set f s.workers w v (gathered v u) was in let b = total-set f (set s.workers w (gathered v u)) x u (newcomer Joined) there in omega arith

  pub join_keeps : IsPlain stripes v.phase → IsPlain stripes u.phase
      → Accounts chunks stripes (record { next = s.next; tickets = s.tickets; serving = s.serving; book = s.book; away = s.away; workers = set (set s.workers w (gathered v u)) x (newcomer Joined) })
  join_keeps pv pu =
      let g : Worker = gathered v u in let n : Worker = newcomer Joined in let vs : List Worker = set s.workers w g in let fv = r.fair w v was in let fu = r.fair x u other in record {
        drawn = λ c. joined (λ v. times c v.draws) (times-append c v.draws u.draws) refl ∙ r.drawn c;
        drawn_all = joined (λ v. length v.draws) (length-append v.draws u.draws) refl ∙ r.drawn_all;
        few = let a = length-set s.workers w g in let b = length-set vs x n in let f = r.few in omega arith;
        fair = each_set (λ (i : ℕ) (y : Worker). IsFair stripes y) vs x u n there record { owed = λ c j h. refl; owed_all = λ j h. refl; within = λ c j h. refl }
            (λ i y _ at. each_set (λ (i : ℕ) (y : Worker). IsFair stripes y) s.workers w v g was
            record {
              owed = λ c j h. let a = put_of-append c j v.puts u.puts in let b = times-append c v.draws u.draws in let d = fv.owed c j h in let e = fu.owed c j h in let z = pu.owes c j in omega arith;
              owed_all = λ j h. let a = put_at-append j v.puts u.puts in let b = length-append v.draws u.draws in let d = fv.owed_all j h in let e = fu.owed_all j h in let z = pu.owes_all j in omega arith;
              within = λ c j h. let a = put_of-append c j v.puts u.puts in let d = fv.within c j h in let e = fu.within c j h in omega arith;
            } (λ i y _ at. r.fair i y at) i y at);
        knows = each_set (λ (i : ℕ) (y : Worker). Knows stripes s.serving y.phase) vs x u n there tt
            (λ i y _ at. each_set (λ (i : ℕ) (y : Worker). Knows stripes s.serving y.phase) s.workers w v g was (pv.knows s.serving) (λ i y _ at. r.knows i y at) i y at);
        balanced = λ i h. let b = r.balanced i h in let qv = pv.quiet i in let qu = pu.quiet i in record {
          served = joined (λ v. put_at i v.puts) (put_at-append i v.puts u.puts) refl ∙ b.served;
          booked = λ c. b.booked c ∙ sym (joined (λ v. put_of c i v.puts + laid_of c i v.phase) (let a = put_of-append c i v.puts u.puts in let z = qu.laid c in omega arith) refl);
          held = λ n. ap (λ (y : ℕ). y + below n (s.serving i)) (joined (λ v. ticket_of i n v.phase) (let z = qu.tickets n in omega arith) refl) ∙ b.held n;
          numbered = joined (λ v. put_at i v.puts + ticket_at i v.phase) (let a = put_at-append i v.puts u.puts in let z = qu.ticket in omega arith) refl ∙ b.numbered;
          lent = λ k away. lifted_set vs x u n i there (λ q. absurd (qu.lift q)) k (lifted_set s.workers w v g i was (λ q. q) k (b.lent k away));
          lends = λ k h. b.lends k (lifted_unset s.workers w v g i was (λ q. q) k (lifted_unset vs x u n i there (λ q. absurd (none-some i q)) k h));
        };
      }
