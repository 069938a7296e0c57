-- RuleLemmas: what the rule says about a seat, and draws.
use Rattle.std.proofs.Common.{◌≡◌, ℕ, zero, suc, ◌+◌, ◌*◌, ◌%◌, ◌^◌, ◌<◌, ◌≤◌, ◌≢◌, ◌⊎◌, ⊎_elim, inl, inr, ◌==◌, ◌&&◌, nat_lt, Bool, true, false, if◌then◌else◌, min, List, [], ◌∷◌, ◌++◌, length, map, set, get_or, slice_get, Option, Some, None, sym, refl, ap, ap₂, ◌∙◌, subst, arith, eq-eqb, ne_eqb, lt-ltb, le-ltb, length-set, length-append, get_or-set_same, get_or-set_other}
use Rattle.std.specs.List.{sum_by}
use Rattle.std.proofs.lemmas.Option.{none-some, same_Some}
use mathlib.Core.Option.{none, some}
use mathlib.Core.Logic.{dite}
use native.Mathlib.Decide.{ℕ_discrete, dec_le, dec_lt}
use lib.ListN.{get_elem?}
use Rattle.atomic_table.specs.Table.{step, keeps, Allows}
use Rattle.atomic_table.proofs.Lists.{set_else}
use Rattle.gq_core.specs.declared.worker.Turn.{Turn}
use Rattle.gq_core.specs.declared.worker.Phase.{Phase}
use Rattle.gq_core.specs.declared.worker.Phase.TheVariants.{Idle, Ended, Holds, Waits, Served, Lifted, Laid, Joined}
use Rattle.gq_core.specs.declared.worker.Worker.{Worker}
use Rattle.gq_core.specs.Accounts.{one_if, below, times, total, put_at, put_of, owes_at, ticket_at, ticket_of, lifts, State, IsFair, Knows, HasLifted, IsBalanced, Accounts}
use Rattle.gq_core.proofs.TotalLemmas.{is_same, is_other, below_yes, below_no, below_one, first_same, total_at, total_two, total_le, total_lt}
use Rattle.gq_core.proofs.DrawLemmas.{draw_keeps, end_keeps}
use Rattle.gq_stripe.specs.declared.view.Plan.{Plan}
use Rattle.gq_stripe.specs.declared.view.Put.{Put}
use Rattle.gq_stripe.specs.declared.view.View.{View}
use Rattle.gq_stripe.specs.declared.stripe.Stripe.{Stripe}
use Rattle.gq_stripe.specs.Laid.{IsLaid}
use Rattle.gq_stripe.specs.Rule.{Slot, Table, next, tickets, serving, worker, core, put_with, over, spent, IsSeat, IsStripe, IsKept}
use Rattle.gq_stripe.specs.Steps.{Known, got, last, drew, Draws}
use Rattle.gq_stripe.proofs.ListLemmas.{within, each_set, sum-set, sum_same, part_of_sum, map-set, got_mapped}

-- a phase is one of those of a live seat, by the seats that it represents
pub alive_seat : (plan : Plan) (books : ℕ → List Put) (v : View) → IsSeat plan books v → v.phase ≢ Joined → 0 < v.stands
alive_seat plan books v s ne = dite (ℕ_discrete v.stands 0)
    (λ (e : v.stands ≡ 0). absurd (ne (ap (λ (u : View). u.phase) (s.live e))))
    (λ (n : v.stands ≢ 0). omega arith)

-- a seat with a ticket owes the put
pub here_owed : (j i : ℕ) → one_if (j == i) ≤ below i (j + 1)
here_owed j i = dite (ℕ_discrete j i)
    (λ (e : j ≡ i). let a = is_same j i e in let b = below_yes i (j + 1) (omega arith) in omega arith)
    (λ (ne : j ≢ i). let a = is_other j i ne in omega arith)

pub ticket_owed : (j : ℕ) (p : Phase) → ticket_at j p ≤ owes_at j p
ticket_owed j Idle = omega arith
ticket_owed j Ended = omega arith
ticket_owed j (Holds c i) = omega arith
ticket_owed j (Waits t) = here_owed j t.stripe
ticket_owed j (Served t) = here_owed j t.stripe
ticket_owed j (Lifted t) = here_owed j t.stripe
ticket_owed j (Laid t) = here_owed j t.stripe
ticket_owed j Joined = omega arith

-- another state whose numbers, workers and books are those of a core
pub shown : (chunks stripes a : ℕ) (s : Table) (books : ℕ → List Put) (away : ℕ → Option ℕ) (ws : List Worker)
    → Accounts chunks stripes (record { next = a; tickets = λ j. tickets s.words j; serving = λ j. serving s.words j; book = λ j. map (λ (p : Put). p.chunk) (books j); away = away; workers = ws })
    → a ≡ next s.words → ws ≡ map worker s.views → Accounts chunks stripes (core s books away)
shown chunks stripes a s books away ws acc e w =
    subst (λ (z : ℕ × List Worker). Accounts chunks stripes (record { next = z.0; tickets = λ j. tickets s.words j; serving = λ j. serving s.words j; book = λ j. map (λ (p : Put). p.chunk) (books j); away = away; workers = z.1 }))
    (λ i. (e i, w i)) acc

module _ (plan : Plan) where
  -- the rule for a seat holds if only its phase, draws and ended seats change
  pub seat_same : (books : ℕ → List Put) (v u : View) → IsSeat plan books v → 0 < v.stands → u.of ≡ v.of → u.stands ≡ v.stands → u.puts ≡ v.puts → u.ended + 1 ≤ u.stands + over u.phase
      → ((t : Turn) → u.phase ≡ Lifted t → u.base ≡ books t.stripe) → IsSeat plan books u
  seat_same books v u r alive of stands puts ended base = record {
    same = λ _. of ∙ r.same alive;
    live = λ e. absurd (omega arith);
    ended = λ _. ended;
    base = base;
    puts = subst (λ (ps : List Put). Rattle.std.specs.Prelude.All (Rattle.gq_stripe.specs.Rule.StandsIn books) ps) (sym puts) r.puts;
  }

  -- the rule for a stripe holds if the served ticket, the slots and the views' puts are unchanged
  pub stripe_same : (s : Table) (id : ℕ) (v u : View) → get_elem? s.views id ≡ some v → (words : List ℕ) (j : ℕ) (book : List Put) (away : Option ℕ) → serving words j ≡ serving s.words j → u.puts ≡ v.puts
      → IsStripe plan s j book away → IsStripe plan (record { words = words; homes = s.homes; views = set s.views id u }) j book away
  stripe_same s id v u at words j book away serve puts r = record {
    count = r.count ∙ sym serve;
    entries = r.entries;
    once = λ t. sum_same (λ (v : View). put_with j t v.puts) s.views id v u at (ap (put_with j t) puts) ∙ (r.once t ∙ ap (below t) (sym serve));
    scalars = r.scalars;
    home = r.home;
  }

  -- the number to draw next stays small
  pub small : (s : Table) (r : IsKept plan s) → next s.words ≤ plan.chunks + 1024
  small s r =
      let at_most = r.over_at in let shared = r.shared in let seats = r.within.seats in
      let fewer = Rattle.gq_stripe.proofs.ListLemmas.sum_le (λ (v : View). v.ended) (λ (v : View). v.stands) s.views (λ k v at. ended_few v (r.seats k v at)) in omega arith
    where
      over_one : (p : Phase) → over p ≤ 1
      over_one Idle = omega arith
      over_one Ended = omega arith
      over_one (Holds c j) = omega arith
      over_one (Waits t) = omega arith
      over_one (Served t) = omega arith
      over_one (Lifted t) = omega arith
      over_one (Laid t) = omega arith
      over_one Joined = omega arith

      ended_few : (v : View) → IsSeat plan r.books v → v.ended ≤ v.stands
      ended_few v h = dite (ℕ_discrete v.stands 0)
          (λ (e : v.stands ≡ 0). let z = ap (λ (u : View). u.ended) (h.live e) in omega arith)
          (λ (n : v.stands ≢ 0). let a = h.ended (omega arith) in let b = over_one v.phase in omega arith)

  -- a step on the number to draw next that changes a view to one with the same puts
  moved : (s : Table) (r : IsKept plan s) (id n : ℕ) (v u : View) → get_elem? s.views id ≡ some v → u.puts ≡ v.puts → u.stands ≡ v.stands → u.spare ≡ v.spare → IsSeat plan r.books u
      → Accounts plan.chunks plan.stripes (core (record { words = set s.words 0 n; homes = s.homes; views = set s.views id u }) r.books r.away)
      → n ≤ plan.chunks + sum_by (λ (v : View). v.ended) (set s.views id u) → (0 < sum_by (λ (v : View). v.ended) (set s.views id u) → plan.chunks < n)
      → IsKept plan (record { words = set s.words 0 n; homes = s.homes; views = set s.views id u })
  moved s r id n v u at puts stands spare seat accounts at_most past =
      let first : get_or (set s.words 0 n) 0 0 ≡ n = let long = r.size in get_or-set_same s.words 0 n 0 (omega arith) in
      let stand : sum_by (λ (v : View). v.stands) (set s.views id u) ≡ sum_by (λ (v : View). v.stands) s.views = sum_same (λ (v : View). v.stands) s.views id v u at stands in record {
        books = r.books;
        away = r.away;
        size = length-set s.words 0 n ∙ r.size;
        slots = r.slots;
        within = r.within;
        accounts = accounts;
        made = length-set s.views id u ∙ (r.made ∙ sym stand);
        shared = ap₂ (λ (x y : ℕ). x + y) stand (sum_same (λ (v : View). v.spare) s.views id v u at spare) ∙ r.shared;
        over_at = subst (λ (x : ℕ). x ≤ plan.chunks + sum_by (λ (v : View). v.ended) (set s.views id u)) (sym first) at_most;
        over_past = λ h. subst (λ (x : ℕ). plan.chunks < x) (sym first) (past h);
        seats = each_set (IsSeat plan r.books) s.views id u seat r.seats;
        stripes = λ j inside. stripe_same s id v u at (set s.words 0 n) j (r.books j) (r.away j) (get_or-set_other s.words 0 (2 * j + 2) n 0 (λ e. omega arith)) puts (r.stripes j inside);
      }

  pub drew_got : (v : View) (x : ℕ) → v.of ≡ plan → x < plan.chunks → drew v x ≡ got v x
  drew_got v x same h = ap (λ b. if b then got v x else last v) (ap (λ (o : Plan). nat_lt x o.chunks) same ∙ lt-ltb x plan.chunks h)

  pub drew_last : (v : View) (x : ℕ) → v.of ≡ plan → plan.chunks ≤ x → drew v x ≡ last v
  drew_last v x same h = ap (λ b. if b then got v x else last v) (ap (λ (o : Plan). nat_lt x o.chunks) same ∙ le-ltb x plan.chunks h)

  not_lifted : (p : Phase) → p ≡ Idle → (t : Turn) → p ≢ Lifted t
  not_lifted p e t h = let d : Idle ≡ Lifted t = sym e ∙ h in cc

  got_kept : (s : Table) (r : IsKept plan s) (id : ℕ) (v : View) → get_elem? s.views id ≡ some v → v.phase ≡ Idle → 0 < v.stands → get_or s.words 0 0 < plan.chunks
      → IsKept plan (record { words = set s.words 0 (get_or s.words 0 0 + 1); homes = s.homes; views = set s.views id (got v (get_or s.words 0 0)) })
  got_kept s r id v at idle alive less =
      let x : ℕ = get_or s.words 0 0 in let u : View = got v x in let words : List ℕ = set s.words 0 (x + 1) in let within_stripes = r.within.stripes in
      let seat = r.seats id v at in let ended = seat.ended alive in let phase = ap over idle in
      let at_most = r.over_at in let past = r.over_past in let same = sum_same (λ (v : View). v.ended) s.views id v u at refl in
      let long = r.size in
      moved s r id (x + 1) v u at refl refl refl
      (seat_same r.books v u seat alive refl refl refl (omega arith) (λ t h. let d : Holds x 0 ≡ Lifted t = h in cc))
      (shown plan.chunks plan.stripes (x + 1) (record { words = words; homes = s.homes; views = set s.views id u }) r.books r.away (set (map worker s.views) id (worker u))
      (draw_keeps plan.chunks plan.stripes (core s r.books r.away) r.accounts id (worker v) (got_mapped worker s.views id v at) (λ j. tickets words j) (λ j. serving words j) (λ j. map (λ (p : Put). p.chunk) (r.books j)) r.away
      idle (omega arith) less (λ j. get_or-set_other s.words 0 (2 * j + 1) (x + 1) 0 (λ e. omega arith)) (λ j. get_or-set_other s.words 0 (2 * j + 2) (x + 1) 0 (λ e. omega arith)) (λ j. refl) (λ j. refl))
      (sym (get_or-set_same s.words 0 (x + 1) 0 (omega arith))) (sym (map-set worker s.views id u)))
      (omega arith)
      (λ h. let p = past (omega arith) in absurd (omega arith))

  last_kept : (s : Table) (r : IsKept plan s) (id : ℕ) (v : View) → get_elem? s.views id ≡ some v → v.phase ≡ Idle → 0 < v.stands → plan.chunks ≤ get_or s.words 0 0
      → IsKept plan (record { words = set s.words 0 (get_or s.words 0 0 + 1); homes = s.homes; views = set s.views id (last v) })
  last_kept s r id v at idle alive more =
      let x : ℕ = get_or s.words 0 0 in let u : View = last v in let words : List ℕ = set s.words 0 (x + 1) in
      let seat = r.seats id v at in let ended = seat.ended alive in let phase = ap over idle in
      let at_most = r.over_at in let one_more = sum-set (λ (v : View). v.ended) s.views id v u at in
      let long = r.size in
      moved s r id (x + 1) v u at refl refl refl
      (seat_same r.books v u seat alive refl refl refl (omega arith) (λ t h. let d : Ended ≡ Lifted t = h in cc))
      (shown plan.chunks plan.stripes (x + 1) (record { words = words; homes = s.homes; views = set s.views id u }) r.books r.away (set (map worker s.views) id (worker u))
      (end_keeps plan.chunks plan.stripes (core s r.books r.away) r.accounts id (worker v) (got_mapped worker s.views id v at) (λ j. tickets words j) (λ j. serving words j) (λ j. map (λ (p : Put). p.chunk) (r.books j)) r.away
      idle more (λ j. get_or-set_other s.words 0 (2 * j + 1) (x + 1) 0 (λ e. omega arith)) (λ j. get_or-set_other s.words 0 (2 * j + 2) (x + 1) 0 (λ e. omega arith)) (λ j. refl) (λ j. refl))
      (sym (get_or-set_same s.words 0 (x + 1) 0 (omega arith))) (sym (map-set worker s.views id u)))
      (omega arith)
      (λ h. omega arith)

  -- a view has at most as many draws as there are chunks, and no chunk that is still to be drawn
  pub few_draws : (s : Table) (r : IsKept plan s) (id : ℕ) (v : View) → get_elem? s.views id ≡ some v → length v.draws ≤ 2 ^ 25
  few_draws s r id v at =
      let all = r.accounts.drawn_all in let chunks = r.within.chunks in
      let mine = total_at (λ (w : Worker). length w.draws) (map worker s.views) id (worker v) (got_mapped worker s.views id v at) in omega arith

  pub fresh_number : (s : Table) (r : IsKept plan s) (id : ℕ) (v : View) → get_elem? s.views id ≡ some v → times (get_or s.words 0 0) v.draws ≡ 0
  fresh_number s r id v at =
      let x : ℕ = get_or s.words 0 0 in let drawn = r.accounts.drawn x in let none_yet = below_no x (min x plan.chunks) (omega arith) in
      let mine = total_at (λ (w : Worker). times x w.draws) (map worker s.views) id (worker v) (got_mapped worker s.views id v at) in omega arith

  pub draws_one : (slots id : ℕ) (me : Known) → me.0.phase ≡ Idle → 0 < me.0.stands → Allows (IsKept plan) slots id me 0 (λ n. (n + 1) % 2 ^ 64) (Draws (step slots 0 1 0 none) me)
  draws_one slots id me idle alive s r _ at _ =
      let v : View = me.0 in let x : ℕ = get_or s.words 0 0 in let bound = small s r in let chunks = r.within.chunks in let of = (r.seats id v at).same alive in
      let up : x + 1 ≡ (x + 1) % 18446744073709551616 = omega arith in
      let goes : View → ℕ → Type 0 = λ u n. IsKept plan (record { words = set s.words 0 n; homes = s.homes; views = set s.views id u }) in
      let kept : goes (drew v x) ((x + 1) % 18446744073709551616) = dite (dec_le plan.chunks x)
      (λ more. subst (λ (z : ℕ × View). goes z.1 z.0) (λ i. (up i, sym (drew_last v x of more) i)) (last_kept s r id v at idle alive more))
      (λ less. subst (λ (z : ℕ × View). goes z.1 z.0) (λ i. (up i, sym (drew_got v x of (omega arith)) i)) (got_kept s r id v at idle alive (omega arith)))
      in (
        drew v x,
        keeps,
        tt,
        kept,
        record {
          slots = refl;
          view = refl;
          fresh = fresh_number s r id v at;
          few = few_draws (record { words = set s.words 0 ((x + 1) % 18446744073709551616); homes = s.homes; views = set s.views id (drew v x) }) kept id (drew v x) (Rattle.atomic_table.proofs.Lists.set_here s.views id (drew v x) (within s.views id v at));
        },
      )
