-- TurnLemmas: a ticket, a look and a leave keep the rule.
use Rattle.std.proofs.Common.{◌≡◌, ℕ, zero, suc, ◌+◌, ◌*◌, ◌%◌, ◌^◌, ◌<◌, ◌≤◌, ◌≢◌, ◌⊎◌, ⊎_elim, inl, inr, ◌==◌, ◌&&◌, ◌||◌, nat_lt, Bool, true, false, if◌then◌else◌, min, List, [], ◌∷◌, ◌++◌, length, map, set, get_or, slice_get, Option, Some, None, sym, refl, ap, ap₂, ◌∙◌, subst, arith, eq-eqb, ne_eqb, lt-ltb, le-ltb, length-set, length-append, get_or-set_same, get_or-set_other}
use Rattle.std.specs.Prelude.{All, flat_map}
use Rattle.std.specs.List.{sum_by}
use Rattle.std.proofs.lemmas.Option.{none-some, same_Some}
use Rattle.std.proofs.lemmas.List.{set-set, map-append}
use Rattle.std.proofs.lemmas.List.Elements.{All-append, All-cons, All-nil, All-head, All-tail}
use mathlib.Core.Option.{none, some}
use mathlib.Core.Option as maybe
use mathlib.Core.Logic.{dite}
use native.Mathlib.Decide.{ℕ_discrete, dec_le, dec_lt}
use lib.ListN.{get_elem?}
use lib.Seq.{set-get_or}
use Rattle.atomic_table.specs.Table.{step, keeps, takes, gives, Allows}
use Rattle.atomic_table.proofs.Lists.{set_again, set_here, set_else, at_set}
use Rattle.gq_core.specs.declared.worker.Turn.{Turn}
use Rattle.gq_core.specs.declared.worker.Phase.{Phase}
use Rattle.gq_core.specs.declared.worker.Phase.TheVariants.{Idle, Ended, Holds, Waits, Served, Lifted, Laid, Joined}
use Rattle.gq_core.specs.declared.worker.Worker.{Worker}
use Rattle.gq_core.specs.Machine.{in_phase}
use Rattle.gq_core.specs.Accounts.{one_if, below, times, total, put_at, put_of, owes_at, owes_of, ticket_at, ticket_of, lifts, State, IsFair, Knows, HasLifted, IsBalanced, Accounts}
use Rattle.gq_core.proofs.TotalLemmas.{is, is_same, is_other, below_yes, below_no, below_one, below-next, first_same, first_other, at_same, total_at, total_two, total_le, total_lt}
use Rattle.gq_core.proofs.StripeLemmas.{quiet_holds, quiet_idle}
use Rattle.gq_core.proofs.MoveLemmas.{ticket_keeps, look_keeps, lift_keeps, lay_keeps}
use Rattle.gq_core.proofs.LeaveLemmas.{IsBehind, leave_keeps}
use Rattle.gq_stripe.specs.declared.view.Plan.{Plan}
use Rattle.gq_stripe.specs.declared.view.Put.{Put}
use Rattle.gq_stripe.specs.declared.view.View.{View}
use Rattle.gq_stripe.specs.declared.stripe.Stripe.{Stripe}
use Rattle.gq_stripe.specs.Contents.{Batch, FitsInput, FitsBatch, inputs_of, any_spoiled, all_scalar}
use Rattle.gq_stripe.specs.Laid.{IsLaid}
use Rattle.gq_stripe.specs.Rule.{Slot, Table, next, tickets, serving, worker, core, put_with, StandsIn, over, IsSeat, IsEntry, IsStripe, IsKept}
use Rattle.gq_stripe.specs.Steps.{Known, waiting, Queues, lifted, IsTaken, IsLook, Looks, slot_spoiled, away_spoiled, behind, made_put, left, Leaves}
use Rattle.gq_stripe.proofs.ListLemmas.{within, each_set, sum-set, sum_same, map-set, got_mapped, from_mapped, get_front, get_last, get_split}
use Rattle.gq_stripe.proofs.RuleLemmas.{ticket_owed, shown, seat_same, stripe_same}

module _ (plan : Plan) where
  -- a stripe has issued at most as many tickets as there are chunks, and fewer while one is to be taken
  pub few_tickets : (s : Table) (r : IsKept plan s) (j : ℕ) → j < plan.stripes → tickets s.words j ≤ plan.chunks
  few_tickets s r j inside =
      let numbered = (r.accounts.balanced j inside).numbered in let all = r.accounts.drawn_all in
      let le = total_le (λ (w : Worker). put_at j w.puts + ticket_at j w.phase) (λ (w : Worker). length w.draws) (map worker s.views)
      (λ k w at. let f = (r.accounts.fair k w at).owed_all j inside in let t = ticket_owed j w.phase in omega arith) in omega arith

  -- the seat's own phase, as the accounts have it
  pub known : (s : Table) (r : IsKept plan s) (id : ℕ) (v : View) → get_elem? s.views id ≡ some v → (p : Phase) → v.phase ≡ p → Knows plan.stripes (λ j. serving s.words j) p
  known s r id v at p e = subst (Knows plan.stripes (λ j. serving s.words j)) e (r.accounts.knows id (worker v) (got_mapped worker s.views id v at))

  -- a step that keeps the next number, and changes a view to one that represents the same seats
  pub regrouped : (s : Table) (r : IsKept plan s) (id : ℕ) (v u : View) → get_elem? s.views id ≡ some v → (words : List ℕ) (homes : List (maybe.Option Slot)) (books : ℕ → List Put) (away : ℕ → Option ℕ)
      → length words ≡ length s.words → length homes ≡ length s.homes → next words ≡ next s.words → u.stands ≡ v.stands → u.spare ≡ v.spare → u.ended ≡ v.ended
      → Accounts plan.chunks plan.stripes (core (record { words = words; homes = homes; views = set s.views id u }) books away)
      → ((k : ℕ) (w : View) → get_elem? (set s.views id u) k ≡ some w → IsSeat plan books w)
      → ((j : ℕ) → j < plan.stripes → IsStripe plan (record { words = words; homes = homes; views = set s.views id u }) j (books j) (away j))
      → IsKept plan (record { words = words; homes = homes; views = set s.views id u })
  regrouped s r id v u at words homes books away long deep first stands spare ended accounts seats stripes =
      let stand = sum_same (λ (v : View). v.stands) s.views id v u at stands in let over_same = sum_same (λ (v : View). v.ended) s.views id v u at ended in record {
        books = books;
        away = away;
        size = long ∙ r.size;
        slots = deep ∙ r.slots;
        within = r.within;
        accounts = accounts;
        made = length-set s.views id u ∙ (r.made ∙ sym stand);
        shared = ap₂ (λ (x y : ℕ). x + y) stand (sum_same (λ (v : View). v.spare) s.views id v u at spare) ∙ r.shared;
        over_at = let a = r.over_at in omega arith;
        over_past = λ h. let a = r.over_past in let b = a (omega arith) in omega arith;
        seats = seats;
        stripes = stripes;
      }

  pub ticket_one : (slots id : ℕ) (me : Known) (c j k : ℕ) (batch : Batch) → me.0.phase ≡ Holds c j → k ≡ 2 * j + 1 → 0 < me.0.stands
      → Allows (IsKept plan) slots id me k (λ n. (n + 1) % 2 ^ 64) (Queues batch (step slots k 1 0 none) me)
  ticket_one slots id me c j k batch phase place alive s r _ at _ =
      let v : View = me.0 in let t : ℕ = get_or s.words k 0 in let n : ℕ = (t + 1) % 18446744073709551616 in let u : View = waiting v c j t batch in
      let inside : j < plan.stripes = known s r id v at (Holds c j) phase in
      let here : t ≡ tickets s.words j = ap (λ (z : ℕ). get_or s.words z 0) place in
      let few = few_tickets s r j inside in let chunks = r.within.chunks in let up : n ≡ t + 1 = omega arith in let long = r.size in
      let words : List ℕ = set s.words k n in
      let seat = r.seats id v at in let ended = seat.ended alive in let was = ap over phase in
      let serve : (i : ℕ) → serving words i ≡ serving s.words i = λ i. get_or-set_other s.words k (2 * i + 2) n 0 (λ e. odd i j (e ∙ place)) in
      let first : next words ≡ next s.words = get_or-set_other s.words k 0 n 0 (λ e. omega arith) in
      let mine : tickets words j ≡ tickets s.words j + 1 = ap (λ (z : ℕ). get_or words z 0) (sym place) ∙ (get_or-set_same s.words k n 0 (omega arith) ∙ (up ∙ ap (λ (z : ℕ). z + 1) here)) in
      let other : (i : ℕ) → i ≢ j → tickets words i ≡ tickets s.words i = λ i ne. get_or-set_other s.words k (2 * i + 1) n 0 (λ e. ne (omega arith)) in
      let s' : Table = record { words = words; homes = s.homes; views = set s.views id u } in (
        u,
        keeps,
        tt,
        regrouped s r id v u at words s.homes r.books r.away (length-set s.words k n) refl first refl refl refl
            (shown plan.chunks plan.stripes (next s.words) s' r.books r.away (set (map worker s.views) id (in_phase (Waits (record { chunk = c; stripe = j; ticket = tickets s.words j })) (worker v)))
            (ticket_keeps plan.chunks plan.stripes (core s r.books r.away) r.accounts id (worker v) (got_mapped worker s.views id v at) c j (λ i. tickets words i) (λ i. serving words i) (λ i. map (λ (p : Put). p.chunk) (r.books i)) r.away
            phase mine other serve (λ i. refl) (λ i. refl))
            (sym first)
            (ap (λ (n : ℕ). set (map worker s.views) id (in_phase (Waits (record { chunk = c; stripe = j; ticket = n })) (worker v))) (sym here) ∙ sym (map-set worker s.views id u)))
            (each_set (IsSeat plan r.books) s.views id u (seat_same plan r.books v u seat alive refl refl refl (omega arith) (λ t' h. let d : Waits (record { chunk = c; stripe = j; ticket = t }) ≡ Lifted t' = h in cc)) r.seats)
            (λ i h. stripe_same plan s id v u at words i (r.books i) (r.away i) (serve i) refl (r.stripes i h)),
        λ c' j' phase'. (refl, ap (λ (p : Phase). in_hand p) (sym phase ∙ phase')),
      )
    where
      odd : (i j : ℕ) → ¬ (2 * i + 2 ≡ 2 * j + 1)
      odd i j e = omega arith

      in_hand : Phase → View
      in_hand (Holds c j) = waiting me.0 c j (get_or s.words k 0) batch
      in_hand p = me.0

  -- a seat that has the stripe away has the ticket that is served
  lifted_ticket : (served : ℕ → ℕ) (j : ℕ) (p : Phase) → lifts p ≡ Some j → Knows plan.stripes served p → ticket_of j (served j) p ≡ 1
  lifted_ticket served j Idle e h = absurd (none-some j e)
  lifted_ticket served j Ended e h = absurd (none-some j e)
  lifted_ticket served j (Holds c i) e h = absurd (none-some j e)
  lifted_ticket served j (Waits t) e h = absurd (none-some j e)
  lifted_ticket served j (Served t) e h = absurd (none-some j e)
  lifted_ticket served j (Lifted t) e h =
      let same : t.stripe ≡ j = same_Some t.stripe j e in let a = first_same (j == t.stripe) (served j == t.ticket) (eq-eqb j t.stripe (sym same)) in
      let b = is_same (served j) t.ticket (sym (h.1 ∙ ap served same)) in omega arith
  lifted_ticket served j (Laid t) e h = absurd (none-some j e)
  lifted_ticket served j Joined e h = absurd (none-some j e)

  -- the stripe of a ticket that is served is at home, and some of its tickets weren't served
  at_home : (s : Table) (r : IsKept plan s) (id : ℕ) (v : View) (t : Turn) → get_elem? s.views id ≡ some v → v.phase ≡ Waits t → t.ticket ≡ serving s.words t.stripe → r.away t.stripe ≡ None
  at_home s r id v t at phase turn = go (r.away t.stripe) refl
    where
      j : ℕ
      j = t.stripe

      inside : j < plan.stripes
      inside = known s r id v at (Waits t) phase

      go : (o : Option ℕ) → r.away j ≡ o → r.away j ≡ None
      go None e = e
      go (Some w) e =
          let b = r.accounts.balanced j inside in let has = b.lent w e in let x : Worker = has.0 in
          let n : ℕ = serving s.words j in let held = b.held n in
          let one = lifted_ticket (λ i. serving s.words i) j x.phase has.2 (r.accounts.knows w x has.1) in
          let mine : ticket_of j n v.phase ≡ 1 = let a = ap (ticket_of j n) phase in let d = first_same (j == t.stripe) (n == t.ticket) (eq-eqb j t.stripe refl) in let g = is_same n t.ticket (sym turn) in omega arith in
          let z = below_one n (tickets s.words j) in
          dite (ℕ_discrete w id)
          (λ (e : w ≡ id). let same : x ≡ worker v = same_Some x (worker v) (sym has.1 ∙ (ap (slice_get (map worker s.views)) e ∙ got_mapped worker s.views id v at)) in
          absurd (none-some j (sym (ap lifts phase) ∙ (ap (λ (y : Worker). lifts y.phase) (sym same) ∙ has.2))))
          (λ (ne : w ≢ id). let two = total_two (λ (w : Worker). ticket_of j n w.phase) (map worker s.views) id w (worker v) x (got_mapped worker s.views id v at) has.1 ne in absurd (omega arith))

  -- a ticket that is held was issued
  pub held_below : (s : Table) (r : IsKept plan s) (id : ℕ) (v : View) (j n : ℕ) → get_elem? s.views id ≡ some v → j < plan.stripes → ticket_of j n v.phase ≡ 1 → n < tickets s.words j
  held_below s r id v j n at inside one =
      let held = (r.accounts.balanced j inside).held n in let mine = total_at (λ (w : Worker). ticket_of j n w.phase) (map worker s.views) id (worker v) (got_mapped worker s.views id v at) in
      dite (dec_lt n (tickets s.words j)) (λ h. h) (λ (h : ¬ (n < tickets s.words j)). let z = below_no n (tickets s.words j) (omega arith) in absurd (omega arith))

  -- if the batches of puts fit, so do all their inputs
  fit_all : (stripes j : ℕ) (ps : List Put) → ((t : ℕ) (p : Put) → slice_get ps t ≡ Some p → FitsBatch plan.layout stripes j p.batch)
      → All (FitsInput plan.layout stripes j) (inputs_of ps) × (length (inputs_of ps) ≤ length ps * 2 ^ 35)
  fit_all stripes j [] h = (All-nil (FitsInput plan.layout stripes j), omega arith)
  fit_all stripes j (p ∷ ps) h =
      let first = h 0 p refl in let rest = fit_all stripes j ps (λ t q at. h (suc t) q at) in let few = first.few in let more = rest.1 in let l = length-append p.batch (inputs_of ps) in
      (All-append (FitsInput plan.layout stripes j) p.batch (inputs_of ps) first.each rest.0, omega arith)

  abbrev turn_in : Turn → Phase → Turn
  turn_in d (Waits t) = t
  turn_in d (Lifted t) = t
  turn_in d p = d

  -- one stripe's worker
  abbrev pub with_away : (ℕ → Option ℕ) → ℕ → Option ℕ → ℕ → Option ℕ
  with_away away j o i = if i == j then o else away i

  pub away_here : (away : ℕ → Option ℕ) (j : ℕ) (o : Option ℕ) (i : ℕ) → i ≡ j → with_away away j o i ≡ o
  away_here away j o i e = ap (λ (q : Bool). if q then o else away i) (eq-eqb i j e)

  pub away_else : (away : ℕ → Option ℕ) (j : ℕ) (o : Option ℕ) (i : ℕ) → i ≢ j → with_away away j o i ≡ away i
  away_else away j o i ne = ap (λ (q : Bool). if q then o else away i) (ne_eqb i j ne)

  looked : (slots id : ℕ) (me : Known) (t : Turn) (k : ℕ) → me.0.phase ≡ Waits t → k ≡ 2 * t.stripe + 2 → 0 < me.0.stands → (s : Table) (r : IsKept plan s) → (at : get_elem? s.views id ≡ some me.0) → get_or s.words k 0 ≡ t.ticket
      → (base : List Put) × (stripe : Stripe) × (get_elem? s.homes t.stripe ≡ some (some (Some stripe))) × IsTaken plan t.stripe base stripe
      × IsKept plan (record { words = s.words; homes = set s.homes t.stripe none; views = set s.views id (lifted me.0 t base) })
  looked slots id me t k phase place alive s r at hit =
      let v : View = me.0 in let j : ℕ = t.stripe in let inside : j < plan.stripes = known s r id v at (Waits t) phase in
      let turn : t.ticket ≡ serving s.words j = sym hit ∙ ap (λ (z : ℕ). get_or s.words z 0) place in
      let home = at_home s r id v t at phase turn in let stripe = (r.stripes j inside).home home in
      let base : List Put = r.books j in let u : View = lifted v t base in let ws : List Worker = map worker s.views in
      let seat = r.seats id v at in let ended = seat.ended alive in let was = ap over phase in
      let away' : ℕ → Option ℕ = with_away r.away j (Some id) in
      let book : ℕ → List ℕ = λ i. map (λ (p : Put). p.chunk) (r.books i) in
      let there = got_mapped worker s.views id v at in
      let a : Worker = in_phase (Served t) (worker v) in
      let s' : Table = record { words = s.words; homes = set s.homes j none; views = set s.views id u } in
      let fit = fit_all plan.stripes j base (λ n p got. ((r.stripes j inside).entries n p got).fits) in
      let held = held_below s r id v j t.ticket at inside (let x = ap (ticket_of j t.ticket) phase in let d = first_same (j == t.stripe) (t.ticket == t.ticket) (eq-eqb j t.stripe refl) in let g = is_same t.ticket t.ticket refl in omega arith) in
      let few = few_tickets s r j inside in let chunks = r.within.chunks in let count = (r.stripes j inside).count in
      let first_step = look_keeps plan.chunks plan.stripes (core s r.books r.away) r.accounts id (worker v) there t (λ i. tickets s.words i) (λ i. serving s.words i) book r.away phase turn (λ i. refl) (λ i. refl) (λ i. refl) (λ i. refl) in
      let second = lift_keeps plan.chunks plan.stripes (record { next = next s.words; tickets = λ i. tickets s.words i; serving = λ i. serving s.words i; book = book; away = r.away; workers = set ws id a }) first_step
      id a (at_same ws id (worker v) a there) t (λ i. tickets s.words i) (λ i. serving s.words i) book away' refl home (λ i. refl) (λ i. refl) (λ i. refl) (away_here r.away j (Some id) j refl) (away_else r.away j (Some id)) in (
        base,
        stripe.0,
        stripe.1,
        record { laid = stripe.2; fit = fit.0; few = omega arith; room = fit.1; scalars = (r.stripes j inside).scalars },
        regrouped s r id v u at s.words (set s.homes j none) r.books away' refl (length-set s.homes j none) refl refl refl refl
            (shown plan.chunks plan.stripes (next s.words) s' r.books away' (set (set ws id a) id (worker u)) second refl (set-set ws id a (worker u) ∙ sym (map-set worker s.views id u)))
            (each_set (IsSeat plan r.books) s.views id u (seat_same plan r.books v u seat alive refl refl refl (omega arith) (λ t' h. ap (λ (p : Phase). r.books (turn_in t p).stripe) h)) r.seats)
            (λ i h. let x = r.stripes i h in record {
              count = x.count;
              entries = x.entries;
              once = λ n. sum_same (λ (v : View). put_with i n v.puts) s.views id v u at refl ∙ x.once n;
              scalars = x.scalars;
              home = λ e. dite (ℕ_discrete i j)
                  (λ (same : i ≡ j). absurd (none-some id (sym e ∙ away_here r.away j (Some id) i same)))
                  (λ (ne : i ≢ j). let y = x.home (sym (away_else r.away j (Some id) i ne) ∙ e) in (y.0, set_else s.homes j i none ne ∙ y.1, y.2));
            }),
      )

  pub look_one : (slots id : ℕ) (me : Known) (t : Turn) (k : ℕ) → me.0.phase ≡ Waits t → k ≡ 2 * t.stripe + 2 → 0 < me.0.stands → Allows (IsKept plan) slots id me k (λ n. n) (Looks (step slots k 0 0 none) me)
  look_one slots id me t k phase place alive s r _ at _ =
      let v : View = me.0 in let x : ℕ = get_or s.words k 0 in let of : v.of ≡ plan = (r.seats id v at).same alive in
      dite (ℕ_discrete x t.ticket)
      (λ (hit : x ≡ t.ticket). let y = looked slots id me t k phase place alive s r at hit in let u : View = lifted v t y.0 in (
        u,
        takes t.stripe (Some y.1),
        y.2,
        subst (λ (ws : List ℕ). IsKept plan (record { words = ws; homes = set s.homes t.stripe none; views = set s.views id u })) (sym (set-get_or s.words k 0)) y.4,
        λ t' phase'. subst (λ (z : Turn). IsLook z me x (u, (t.stripe, Some y.1) ∷ me.1)) (ap (turn_in t) (sym phase ∙ phase')) record {
          turn = λ _. (y.0, y.1, refl, subst (λ (o : Plan). IsTaken o t.stripe y.0 y.1) (sym of) y.3);
          other = λ miss. absurd (miss hit);
        },
      ))
      (λ (miss : x ≢ t.ticket). (
        v,
        keeps,
        tt,
        subst (λ (z : List ℕ × List View). IsKept plan (record { words = z.0; homes = s.homes; views = z.1 })) (λ i. (sym (set-get_or s.words k 0) i, sym (set_again s.views id v at) i)) r,
        λ t' phase'. subst (λ (z : Turn). IsLook z me x me) (ap (turn_in t) (sym phase ∙ phase')) record { turn = λ hit. absurd (miss hit); other = λ _. refl },
      ))
