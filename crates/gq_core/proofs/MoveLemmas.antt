-- Ticket, Look, Lift and Lay preserve the accounts: one worker changes its phase at a stripe.
use Rattle.std.proofs.Common.{◌≡◌, ℕ, ◌+◌, ◌<◌, ◌≤◌, ◌≢◌, ◌==◌, List, [], ◌∷◌, ◌++◌, length, set, Option, Some, None, slice_get, sym, ◌∙◌, refl, ap, ap₂, subst, arith, eq-eqb, length-set}
use Rattle.std.proofs.lemmas.Option.{none-some, same_Some}
use mathlib.Core.Logic.{dite}
use native.Mathlib.Decide.{ℕ_discrete}
use Rattle.gq_core.specs.declared.worker.Turn.{Turn}
use Rattle.gq_core.specs.declared.worker.Phase.{Phase}
use Rattle.gq_core.specs.declared.worker.Phase.TheVariants.{Idle, Ended, Holds, Waits, Served, Lifted, Laid, Joined}
use Rattle.gq_core.specs.declared.worker.Worker.{Worker}
use Rattle.gq_core.specs.Machine.{in_phase}
use Rattle.gq_core.specs.Accounts.{one_if, below, times, put_at, put_of, owes_at, owes_of, ticket_at, ticket_of, laid_of, lifts, State, IsFair, Knows, HasLifted, IsBalanced, Accounts}
use Rattle.gq_core.proofs.TotalLemmas.{is_same, first_same, second_same, below-next, at_same, each_set, total-set, total_same, times-append}
use Rattle.gq_core.proofs.StripeLemmas.{IsQuiet, quiet_holds, quiet_waits, quiet_served, quiet_lifted, quiet_laid, alike_quiet, lifted_set, lifted_unset, balanced_same}

pub knows_same : (stripes : ℕ) (serving serving' : ℕ → ℕ) → ((j : ℕ) → serving' j ≡ serving j) → (p : Phase) → Knows stripes serving p → Knows stripes serving' p
knows_same stripes serving serving' same Idle k = tt
knows_same stripes serving serving' same Ended k = tt
knows_same stripes serving serving' same (Holds c j) k = k
knows_same stripes serving serving' same (Waits t) k = k
knows_same stripes serving serving' same (Served t) k = (k.0, k.1 ∙ sym (same t.stripe))
knows_same stripes serving serving' same (Lifted t) k = (k.0, k.1 ∙ sym (same t.stripe))
knows_same stripes serving serving' same (Laid t) k = (k.0, k.1 ∙ sym (same t.stripe))
knows_same stripes serving serving' same Joined k = tt

module _ (chunks stripes : ℕ) (s : State) (r : Accounts chunks stripes s) (w : ℕ) (v : Worker) (was : slice_get s.workers w ≡ Some v) where
  -- another phase with the same debts, given the accounts of each stripe
  pub moves : (tickets serving : ℕ → ℕ) (book : ℕ → List ℕ) (away : ℕ → Option ℕ) (p : Phase)
      → ((c i : ℕ) → owes_of c i p ≡ owes_of c i v.phase) → ((i : ℕ) → owes_at i p ≡ owes_at i v.phase) → ((i : ℕ) → serving i ≡ s.serving i) → Knows stripes s.serving p
      → ((i : ℕ) → i < stripes → IsBalanced (record { next = s.next; tickets = tickets; serving = serving; book = book; away = away; workers = set s.workers w (in_phase p v) }) i)
      → Accounts chunks stripes (record { next = s.next; tickets = tickets; serving = serving; book = book; away = away; workers = set s.workers w (in_phase p v) })
  moves tickets serving book away p owes_of_same owes_same same knows balanced =
      let u : Worker = in_phase p v in let fair = r.fair w v was in record {
        drawn = λ c. total_same (λ v. times c v.draws) s.workers w v u was refl ∙ r.drawn c;
        drawn_all = total_same (λ v. length v.draws) s.workers w v u was refl ∙ r.drawn_all;
        few = subst (λ (n : ℕ). n ≤ 1024) (sym (length-set s.workers w u)) r.few;
        fair = each_set (λ (i : ℕ) (x : Worker). IsFair stripes x) s.workers w v u was
            record {
              owed = λ c j h. ap (λ (n : ℕ). put_of c j v.puts + n) (owes_of_same c j) ∙ fair.owed c j h;
              owed_all = λ j h. ap (λ (n : ℕ). put_at j v.puts + n) (owes_same j) ∙ fair.owed_all j h;
              within = fair.within;
            } (λ i x _ at. r.fair i x at);
        knows = each_set (λ (i : ℕ) (x : Worker). Knows stripes serving x.phase) s.workers w v u was (knows_same stripes s.serving serving same p knows)
            (λ i x _ at. knows_same stripes s.serving serving same x.phase (r.knows i x at));
        balanced = balanced;
      }

  pub ticket_keeps : (c j : ℕ) (tickets serving : ℕ → ℕ) (book : ℕ → List ℕ) (away : ℕ → Option ℕ) → v.phase ≡ Holds c j
      → tickets j ≡ s.tickets j + 1 → ((i : ℕ) → i ≢ j → tickets i ≡ s.tickets i) → ((i : ℕ) → serving i ≡ s.serving i) → ((i : ℕ) → book i ≡ s.book i) → ((i : ℕ) → away i ≡ s.away i)
      → Accounts chunks stripes (record { next = s.next; tickets = tickets; serving = serving; book = book; away = away; workers = set s.workers w (in_phase (Waits (record { chunk = c; stripe = j; ticket = s.tickets j })) v) })
  ticket_keeps c j tickets serving book away phase rises others served books aways =
      let t : Turn = record { chunk = c; stripe = j; ticket = s.tickets j } in let u : Worker = in_phase (Waits t) v in
      moves tickets serving book away (Waits t) (λ c' i. sym (ap (owes_of c' i) phase)) (λ i. sym (ap (owes_at i) phase)) served (subst (Knows stripes s.serving) phase (r.knows w v was))
      (λ i h. let b = r.balanced i h in dite (ℕ_discrete i j)
      (λ (e : i ≡ j). let up : tickets i ≡ s.tickets i + 1 = ap tickets e ∙ (rises ∙ ap (λ (n : ℕ). s.tickets n + 1) (sym e)) in let here : s.tickets j ≡ s.tickets i = ap s.tickets (sym e) in record {
        served = total_same (λ v. put_at i v.puts) s.workers w v u was refl ∙ (b.served ∙ sym (served i));
        booked = λ x. ap (times x) (books i) ∙ (b.booked x ∙ sym (total_same (λ v. put_of x i v.puts + laid_of x i v.phase) s.workers w v u was (ap (λ (p : Phase). put_of x i v.puts + laid_of x i p) (sym phase))));
        held = λ n. let z = total-set (λ v. ticket_of i n v.phase) s.workers w v u was in let f = ap (ticket_of i n) phase in let g = first_same (i == j) (n == s.tickets j) (eq-eqb i j e) in
            let k = ap (λ (x : ℕ). one_if (n == x)) here in let m = b.held n in let q = below-next n (s.tickets i) in let a = ap (below n) up in let d = ap (below n) (served i) in omega arith;
        numbered = let z = total-set (λ v. put_at i v.puts + ticket_at i v.phase) s.workers w v u was in let f = ap (ticket_at i) phase in let g = is_same i j e in let m = b.numbered in omega arith;
        lent = λ k h. lifted_set s.workers w v u i was (λ q. absurd (none-some i (ap lifts (sym phase) ∙ q))) k (b.lent k (sym (aways i) ∙ h));
        lends = λ k h. aways i ∙ b.lends k (lifted_unset s.workers w v u i was (λ q. absurd (none-some i q)) k h);
      })
      (λ (ne : i ≢ j). balanced_same s w v u was s.next tickets serving book away i (others i ne) (served i) (books i) (aways i)
      (alike_quiet i v u (subst (IsQuiet i) (sym phase) (quiet_holds i c j)) (quiet_waits i t ne) refl (λ c. refl)) b))

  pub look_keeps : (t : Turn) (tickets serving : ℕ → ℕ) (book : ℕ → List ℕ) (away : ℕ → Option ℕ) → v.phase ≡ Waits t → t.ticket ≡ s.serving t.stripe
      → ((i : ℕ) → tickets i ≡ s.tickets i) → ((i : ℕ) → serving i ≡ s.serving i) → ((i : ℕ) → book i ≡ s.book i) → ((i : ℕ) → away i ≡ s.away i)
      → Accounts chunks stripes (record { next = s.next; tickets = tickets; serving = serving; book = book; away = away; workers = set s.workers w (in_phase (Served t) v) })
  look_keeps t tickets serving book away phase turn numbers served books aways =
      let u : Worker = in_phase (Served t) v in
      moves tickets serving book away (Served t) (λ c' i. sym (ap (owes_of c' i) phase)) (λ i. sym (ap (owes_at i) phase)) served (subst (Knows stripes s.serving) phase (r.knows w v was), turn)
      (λ i h. balanced_same s w v u was s.next tickets serving book away i (numbers i) (served i) (books i) (aways i)
      record {
        puts = refl;
        puts_of = λ c. refl;
        laid = λ c. ap (laid_of c i) (sym phase);
        ticket = ap (ticket_at i) (sym phase);
        tickets = λ n. ap (ticket_of i n) (sym phase);
        lift = λ q. absurd (none-some i (ap lifts (sym phase) ∙ q));
        lift_back = λ q. absurd (none-some i q);
      } (r.balanced i h))

  pub lift_keeps : (t : Turn) (tickets serving : ℕ → ℕ) (book : ℕ → List ℕ) (away : ℕ → Option ℕ) → v.phase ≡ Served t → s.away t.stripe ≡ None
      → ((i : ℕ) → tickets i ≡ s.tickets i) → ((i : ℕ) → serving i ≡ s.serving i) → ((i : ℕ) → book i ≡ s.book i) → away t.stripe ≡ Some w → ((i : ℕ) → i ≢ t.stripe → away i ≡ s.away i)
      → Accounts chunks stripes (record { next = s.next; tickets = tickets; serving = serving; book = book; away = away; workers = set s.workers w (in_phase (Lifted t) v) })
  lift_keeps t tickets serving book away phase home numbers served books mine others =
      let u : Worker = in_phase (Lifted t) v in
      moves tickets serving book away (Lifted t) (λ c' i. sym (ap (owes_of c' i) phase)) (λ i. sym (ap (owes_at i) phase)) served (subst (Knows stripes s.serving) phase (r.knows w v was))
      (λ i h. let b = r.balanced i h in dite (ℕ_discrete i t.stripe)
      (λ (e : i ≡ t.stripe). let here : away i ≡ Some w = ap away e ∙ mine in record {
        served = total_same (λ v. put_at i v.puts) s.workers w v u was refl ∙ (b.served ∙ sym (served i));
        booked = λ x. ap (times x) (books i) ∙ (b.booked x ∙ sym (total_same (λ v. put_of x i v.puts + laid_of x i v.phase) s.workers w v u was (ap (λ (p : Phase). put_of x i v.puts + laid_of x i p) (sym phase))));
        held = λ n. ap₂ (λ (x y : ℕ). x + below n y) (total_same (λ v. ticket_of i n v.phase) s.workers w v u was (ap (ticket_of i n) (sym phase))) (served i) ∙ (b.held n ∙ ap (below n) (sym (numbers i)));
        numbered = total_same (λ v. put_at i v.puts + ticket_at i v.phase) s.workers w v u was (ap (λ (p : Phase). put_at i v.puts + ticket_at i p) (sym phase)) ∙ (b.numbered ∙ sym (numbers i));
        lent = λ k h. let same : w ≡ k = same_Some w k (sym here ∙ h) in subst (λ (n : ℕ). HasLifted (set s.workers w u) n i) same (u, at_same s.workers w v u was, ap Some (sym e));
        lends = λ k (x, at, lift). each_set (λ (n : ℕ) (y : Worker). lifts y.phase ≡ Some i → away i ≡ Some n) s.workers w v u was (λ _. here)
            (λ n y _ there q. absurd (none-some n (sym home ∙ (ap s.away (sym e) ∙ b.lends n (y, there, q))))) k x at lift;
      })
      (λ (ne : i ≢ t.stripe). balanced_same s w v u was s.next tickets serving book away i (numbers i) (served i) (books i) (others i ne)
      (alike_quiet i v u (subst (IsQuiet i) (sym phase) (quiet_served i t ne)) (quiet_lifted i t ne) refl (λ c. refl)) b))

  pub lay_keeps : (t : Turn) (tickets serving : ℕ → ℕ) (book : ℕ → List ℕ) (away : ℕ → Option ℕ) → v.phase ≡ Lifted t
      → ((i : ℕ) → tickets i ≡ s.tickets i) → ((i : ℕ) → serving i ≡ s.serving i) → book t.stripe ≡ s.book t.stripe ++ t.chunk ∷ [] → ((i : ℕ) → i ≢ t.stripe → book i ≡ s.book i)
      → away t.stripe ≡ None → ((i : ℕ) → i ≢ t.stripe → away i ≡ s.away i)
      → Accounts chunks stripes (record { next = s.next; tickets = tickets; serving = serving; book = book; away = away; workers = set s.workers w (in_phase (Laid t) v) })
  lay_keeps t tickets serving book away phase numbers served gains books home aways =
      let u : Worker = in_phase (Laid t) v in
      moves tickets serving book away (Laid t) (λ c' i. sym (ap (owes_of c' i) phase)) (λ i. sym (ap (owes_at i) phase)) served (subst (Knows stripes s.serving) phase (r.knows w v was))
      (λ i h. let b = r.balanced i h in dite (ℕ_discrete i t.stripe)
      (λ (e : i ≡ t.stripe). let here : away i ≡ None = ap away e ∙ home in let more : book i ≡ s.book i ++ t.chunk ∷ [] = ap book e ∙ (gains ∙ ap (λ (n : ℕ). s.book n ++ t.chunk ∷ []) (sym e)) in record {
        served = total_same (λ v. put_at i v.puts) s.workers w v u was refl ∙ (b.served ∙ sym (served i));
        booked = λ x. let z = total-set (λ v. put_of x i v.puts + laid_of x i v.phase) s.workers w v u was in let f = ap (laid_of x i) phase in let g = second_same (x == t.chunk) (i == t.stripe) (eq-eqb i t.stripe e) in
            let m = b.booked x in let k = ap (times x) more in let l = times-append x (s.book i) (t.chunk ∷ []) in omega arith;
        held = λ n. ap₂ (λ (x y : ℕ). x + below n y) (total_same (λ v. ticket_of i n v.phase) s.workers w v u was (ap (ticket_of i n) (sym phase))) (served i) ∙ (b.held n ∙ ap (below n) (sym (numbers i)));
        numbered = total_same (λ v. put_at i v.puts + ticket_at i v.phase) s.workers w v u was (ap (λ (p : Phase). put_at i v.puts + ticket_at i p) (sym phase)) ∙ (b.numbered ∙ sym (numbers i));
        lent = λ k h. absurd (none-some k (sym here ∙ h));
        lends = λ k (x, at, lift). each_set (λ (n : ℕ) (y : Worker). lifts y.phase ≡ Some i → away i ≡ Some n) s.workers w v u was (λ q. absurd (none-some i q))
            (λ n y ne there q. let mine : s.away i ≡ Some w = b.lends w (v, was, ap lifts phase ∙ ap Some (sym e)) in absurd (ne (same_Some n w (sym (b.lends n (y, there, q)) ∙ mine)))) k x at lift;
      })
      (λ (ne : i ≢ t.stripe). balanced_same s w v u was s.next tickets serving book away i (numbers i) (served i) (books i ne) (aways i ne)
      (alike_quiet i v u (subst (IsQuiet i) (sym phase) (quiet_lifted i t ne)) (quiet_laid i t ne) refl (λ c. refl)) b))
