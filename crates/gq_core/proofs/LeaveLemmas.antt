-- Leave preserves the accounts: a worker that has laid its chunk has put it, and the next ticket is served.
use Rattle.std.proofs.Common.{◌≡◌, ℕ, ◌+◌, ◌<◌, ◌≤◌, ◌≢◌, ◌==◌, ◌&&◌, nat_lt, Bool, true, false, List, [], ◌∷◌, ◌++◌, length, set, Option, Some, slice_get, sym, ◌∙◌, refl, ap, subst, arith, eq-eqb, ne_eqb, length-set}
use Rattle.std.proofs.lemmas.Option.{none-some}
use mathlib.Core.Logic.{dite}
use native.Mathlib.Decide.{ℕ_discrete, dec_le}
use Rattle.gq_core.specs.declared.worker.Turn.{Turn}
use Rattle.gq_core.specs.declared.worker.Phase.{Phase}
use Rattle.gq_core.specs.declared.worker.Phase.TheVariants.{Idle, Ended, Holds, Waits, Served, Lifted, Laid, Joined}
use Rattle.gq_core.specs.declared.worker.Worker.{Worker}
use Rattle.gq_core.specs.Accounts.{one_if, below, times, put_at, put_of, owes_at, owes_of, ticket_at, ticket_of, laid_of, lifts, State, IsFair, Knows, Accounts}
use Rattle.gq_core.proofs.TotalLemmas.{is, is_same, is_other, below_yes, below_no, below_one, below-next, first_same, second_other, each_set, total-set, total_same, total_two, put_at-append, put_of-append}
use Rattle.gq_core.proofs.StripeLemmas.{IsQuiet, quiet_laid, alike_quiet, lifted_set, lifted_unset, balanced_same}

-- a stripe from j on is j, or a later one
below_step : (i j : ℕ) → below j (i + 1) ≡ is i j + below (j + 1) (i + 1)
below_step i j = dite (ℕ_discrete i j)
    (λ (e : i ≡ j). let a = is_same i j e in let b = below_yes j (i + 1) (omega arith) in let d = below_no (j + 1) (i + 1) (omega arith) in omega arith)
    (λ (ne : i ≢ j). let a = is_other i j ne in dite (dec_le j i)
    (λ (h : j ≤ i). let b = below_yes j (i + 1) (omega arith) in let d = below_yes (j + 1) (i + 1) (omega arith) in omega arith)
    (λ (h : ¬ (j ≤ i)). let b = below_no j (i + 1) (omega arith) in let d = below_no (j + 1) (i + 1) (omega arith) in omega arith))

both_step : (a : Bool) (i j : ℕ) → one_if (a && nat_lt j (i + 1)) ≡ one_if (a && (i == j)) + one_if (a && nat_lt (j + 1) (i + 1))
both_step true i j = below_step i j
both_step false i j = refl

-- a worker that is done with a stripe: it owes the later stripes, and counts for nothing else
pub record IsBehind (stripes : ℕ) (t : Turn) (p : Phase) : Type 0 where
  pub owes : (c i : ℕ) → i < stripes → owes_of c i p ≡ one_if ((c == t.chunk) && nat_lt (t.stripe + 1) (i + 1))
  pub owes_all : (i : ℕ) → i < stripes → owes_at i p ≡ below (t.stripe + 1) (i + 1)
  pub knows : (serving : ℕ → ℕ) → Knows stripes serving p
  pub quiet : (i : ℕ) → IsQuiet i p

has_ticket : (s : State) (t : Turn) (j : ℕ) → (t.stripe ≡ j → one_if ((t.stripe == t.stripe) && (s.serving j == t.ticket)) ≡ 0) → (serving : ℕ → ℕ) → ((i : ℕ) → i ≢ j → serving i ≡ s.serving i) → t.ticket ≡ s.serving t.stripe → t.ticket ≡ serving t.stripe
has_ticket s t j nobody serving same turn = dite (ℕ_discrete t.stripe j)
    (λ (e : t.stripe ≡ j). let f = nobody e in let g = first_same (t.stripe == t.stripe) (s.serving j == t.ticket) (eq-eqb t.stripe t.stripe refl) in
    let d = is_same (s.serving j) t.ticket (ap s.serving (sym e) ∙ sym turn) in absurd (omega arith))
    (λ (ne : t.stripe ≢ j). turn ∙ sym (same t.stripe ne))

-- if no other worker has the served ticket of stripe j, incrementing serving there keeps what other workers know
serves : (s : State) (p : Phase) (j : ℕ) → ((i : ℕ) → i ≡ j → ticket_of i (s.serving j) p ≡ 0) → (stripes : ℕ) (serving : ℕ → ℕ) → ((i : ℕ) → i ≢ j → serving i ≡ s.serving i) → Knows stripes s.serving p → Knows stripes serving p
serves s Idle j nobody stripes serving same k = tt
serves s Ended j nobody stripes serving same k = tt
serves s (Holds c i) j nobody stripes serving same k = k
serves s (Waits t) j nobody stripes serving same k = k
serves s (Served t) j nobody stripes serving same k = (k.0, has_ticket s t j (nobody t.stripe) serving same k.1)
serves s (Lifted t) j nobody stripes serving same k = (k.0, has_ticket s t j (nobody t.stripe) serving same k.1)
serves s (Laid t) j nobody stripes serving same k = (k.0, has_ticket s t j (nobody t.stripe) serving same k.1)
serves s Joined j nobody stripes serving same k = tt

module _ (chunks stripes : ℕ) (s : State) (r : Accounts chunks stripes s) (w : ℕ) (v : Worker) (was : slice_get s.workers w ≡ Some v) where
  pub leave_keeps : (t : Turn) (tickets serving : ℕ → ℕ) (book : ℕ → List ℕ) (away : ℕ → Option ℕ) (p : Phase) → v.phase ≡ Laid t → IsBehind stripes t p
      → ((i : ℕ) → tickets i ≡ s.tickets i) → serving t.stripe ≡ s.serving t.stripe + 1 → ((i : ℕ) → i ≢ t.stripe → serving i ≡ s.serving i) → ((i : ℕ) → book i ≡ s.book i) → ((i : ℕ) → away i ≡ s.away i)
      → Accounts chunks stripes (record { next = s.next; tickets = tickets; serving = serving; book = book; away = away; workers = set s.workers w (record { phase = p; draws = v.draws; puts = v.puts ++ (t.chunk, t.stripe) ∷ [] }) })
  leave_keeps t tickets serving book away p phase goes numbers rises served books aways =
      let j : ℕ = t.stripe in let c : ℕ = t.chunk in let u : Worker = record { phase = p; draws = v.draws; puts = v.puts ++ (c, j) ∷ [] } in
      let fair = r.fair w v was in let known : Knows stripes s.serving (Laid t) = subst (Knows stripes s.serving) phase (r.knows w v was) in
      let inside : j < stripes = known.0 in let turn : t.ticket ≡ s.serving j = known.1 in record {
        drawn = λ x. total_same (λ v. times x v.draws) s.workers w v u was refl ∙ r.drawn x;
        drawn_all = total_same (λ v. length v.draws) s.workers w v u was refl ∙ r.drawn_all;
        few = subst (λ (n : ℕ). n ≤ 1024) (sym (length-set s.workers w u)) r.few;
        fair = each_set (λ (i : ℕ) (x : Worker). IsFair stripes x) s.workers w v u was
            record {
              owed = λ x i h. let a = put_of-append x i v.puts ((c, j) ∷ []) in let f = fair.owed x i h in let e = ap (owes_of x i) phase in let g = goes.owes x i h in let b = both_step (x == c) i j in omega arith;
              owed_all = λ i h. let a = put_at-append i v.puts ((c, j) ∷ []) in let f = fair.owed_all i h in let e = ap (owes_at i) phase in let g = goes.owes_all i h in let b = below_step i j in omega arith;
              within = λ x i h. let a = put_of-append x i v.puts ((c, j) ∷ []) in let f = fair.within x i h in let b = second_other (x == c) (i == j) (ne_eqb i j (λ e. apart i j stripes e h inside)) in omega arith;
            } (λ i x _ at. r.fair i x at);
        knows = each_set (λ (i : ℕ) (x : Worker). Knows stripes serving x.phase) s.workers w v u was (goes.knows serving)
            (λ i x ne at. serves s x.phase j (λ k e. let two = total_two (λ v. ticket_of k (s.serving j) v.phase) s.workers w i v x was at ne in
            let m = (r.balanced k (subst (λ (n : ℕ). n < stripes) (sym e) inside)).held (s.serving j) in let o = below_one (s.serving j) (s.tickets k) in
            let f = ap (ticket_of k (s.serving j)) phase in let g = first_same (k == j) (s.serving j == t.ticket) (eq-eqb k j e) in let d = is_same (s.serving j) t.ticket (sym turn) in omega arith)
            stripes serving served (r.knows i x at));
        balanced = λ i h. let b = r.balanced i h in dite (ℕ_discrete i j)
            (λ (e : i ≡ j). let up : serving i ≡ s.serving i + 1 = ap serving e ∙ (rises ∙ ap (λ (n : ℕ). s.serving n + 1) (sym e)) in let q = goes.quiet i in let here : s.serving j ≡ s.serving i = ap s.serving (sym e) in record {
              served = let z = total-set (λ v. put_at i v.puts) s.workers w v u was in let a = put_at-append i v.puts ((c, j) ∷ []) in let g = is_same i j e in let m = b.served in omega arith;
              booked = λ x. ap (times x) (books i) ∙ (b.booked x ∙ sym (total_same (λ v. put_of x i v.puts + laid_of x i v.phase) s.workers w v u was
                  (let a = put_of-append x i v.puts ((c, j) ∷ []) in let f = ap (laid_of x i) phase in let l = q.laid x in omega arith)));
              held = λ n. let z = total-set (λ v. ticket_of i n v.phase) s.workers w v u was in let f = ap (ticket_of i n) phase in let g = first_same (i == j) (n == t.ticket) (eq-eqb i j e) in
                  let l = q.tickets n in let k = ap (is n) (turn ∙ here) in let m = b.held n in let a = ap (below n) up in let d = below-next n (s.serving i) in let y = ap (below n) (numbers i) in omega arith;
              numbered = let z = total-set (λ v. put_at i v.puts + ticket_at i v.phase) s.workers w v u was in let a = put_at-append i v.puts ((c, j) ∷ []) in let f = ap (ticket_at i) phase in
                  let l = q.ticket in let m = b.numbered in let y = numbers i in omega arith;
              lent = λ k h. lifted_set s.workers w v u i was (λ d. absurd (none-some i (ap lifts (sym phase) ∙ d))) k (b.lent k (sym (aways i) ∙ h));
              lends = λ k h. aways i ∙ b.lends k (lifted_unset s.workers w v u i was (λ d. absurd (q.lift d)) k h);
            })
            (λ (ne : i ≢ j). balanced_same s w v u was s.next tickets serving book away i (numbers i) (served i ne) (books i) (aways i)
            (alike_quiet i v u (subst (IsQuiet i) (sym phase) (quiet_laid i t ne)) (goes.quiet i)
            (let a = put_at-append i v.puts ((c, j) ∷ []) in let g = is_other i j ne in omega arith)
            (λ x. let a = put_of-append x i v.puts ((c, j) ∷ []) in let g = second_other (x == c) (i == j) (ne_eqb i j ne) in omega arith)) b);
      }
    where
      apart : (i j n : ℕ) → i ≡ j → n ≤ i → j < n → ⊥
      apart i j n e h less = omega arith
