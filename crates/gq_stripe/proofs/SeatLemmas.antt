-- SeatLemmas: a book at its start, seats that are split off and joined, and what a look shows.
use Rattle.std.proofs.Common.{◌≡◌, ℕ, zero, suc, ◌+◌, ◌*◌, ◌^◌, ◌<◌, ◌≤◌, ◌≢◌, ◌⊎◌, ⊎_elim, inl, inr, min, Bool, true, false, List, [], ◌∷◌, ◌++◌, length, map, set, get_or, slice_get, Option, Some, None, sym, refl, ap, ap₂, ◌∙◌, subst, arith, length-set, length-append}
use Rattle.std.specs.Prelude.{All, replicate}
use Rattle.std.specs.List.{sum_by}
use Rattle.std.proofs.lemmas.Option.{none-some, same_Some}
use Rattle.std.proofs.lemmas.List.{map-append, length-map}
use Rattle.std.proofs.lemmas.List.Sums.{sum_by_push}
use Rattle.std.proofs.lemmas.List.Elements.{All-append, All-nil}
use mathlib.Core.Option.{none, some, some-injective, some-ne-none}
use mathlib.Core.Logic.{dite}
use native.Mathlib.Decide.{ℕ_discrete}
use lib.ListN.{get_elem?}
use lib.Seq.{set-get_or}
use Rattle.atomic_table.specs.Table.{step, keeps, opening, Allows, Splits, Joins}
use Rattle.atomic_table.proofs.Lists.{set_again, set_else, at_map}
use Rattle.gq_core.specs.declared.worker.Turn.{Turn}
use Rattle.gq_core.specs.declared.worker.Phase.{Phase}
use Rattle.gq_core.specs.declared.worker.Phase.TheVariants.{Idle, Ended, Holds, Waits, Served, Lifted, Laid, Joined}
use Rattle.gq_core.specs.declared.worker.Worker.{Worker}
use Rattle.gq_core.specs.Machine.{newcomer, gathered, is_free}
use Rattle.gq_core.specs.Accounts.{below, times, total, put_at, owes_at, owes_of, lifts, IsFair, Knows, Accounts}
use Rattle.gq_core.proofs.TotalLemmas.{below_no, below_one, total-set, total_at}
use Rattle.gq_core.proofs.StripeLemmas.{quiet_idle, quiet_ended}
use Rattle.gq_core.proofs.DrawLemmas.{IsPlain, split_keeps, join_keeps}
use Rattle.gq_stripe.specs.declared.view.Plan.{Plan}
use Rattle.gq_stripe.specs.declared.view.Put.{Put}
use Rattle.gq_stripe.specs.declared.view.View.{View}
use Rattle.gq_stripe.specs.declared.stripe.Stripe.{Stripe}
use Rattle.gq_stripe.specs.Laid.{IsLaid}
use Rattle.gq_stripe.specs.Rule.{Slot, Table, next, tickets, serving, worker, core, put_with, StandsIn, over, spent, IsSeat, IsStripe, IsWithin, IsKept, first, handed, fresh, joined}
use Rattle.gq_stripe.specs.Steps.{Known, Counts}
use Rattle.gq_stripe.specs.Opening.{AreOpen}
use Rattle.gq_stripe.proofs.ListLemmas.{each_set, each_more, sum-set, sum_same, part_of_sum, sum_none, map-set, got_mapped, from_mapped}
use Rattle.gq_stripe.proofs.RuleLemmas.{shown, few_draws}
use Rattle.gq_stripe.proofs.LeaveLemmas.{put_with-append}
use Rattle.gq_stripe.proofs.CountLemmas.{puts_in_all, total_none}

abbrev zeros : ℕ → List ℕ
zeros n = replicate n 0

zeros_long : (n : ℕ) → length (zeros n) ≡ n
zeros_long zero = refl
zeros_long (suc n) = ap suc (zeros_long n)

zero_at : (n i : ℕ) → get_or (zeros n) i 0 ≡ 0
zero_at zero i = refl
zero_at (suc n) zero = refl
zero_at (suc n) (suc i) = zero_at n i

-- a phase without a chunk
pub is_plain : (stripes : ℕ) (p : Phase) → is_free p ≡ true → IsPlain stripes p
is_plain stripes Idle h = record { owes = λ c i. refl; owes_all = λ i. refl; knows = λ _. tt; quiet = quiet_idle }
is_plain stripes Ended h = record { owes = λ c i. refl; owes_all = λ i. refl; knows = λ _. tt; quiet = quiet_ended }
is_plain stripes (Holds c j) h = cc
is_plain stripes (Waits t) h = cc
is_plain stripes (Served t) h = cc
is_plain stripes (Lifted t) h = cc
is_plain stripes (Laid t) h = cc
is_plain stripes Joined h = cc

free_not_lifted : (p : Phase) → is_free p ≡ true → (t : Turn) → p ≢ Lifted t
free_not_lifted p h t e = let d : false ≡ true = ap is_free (sym e) ∙ h in cc

over_one : (p : Phase) → over p ≤ 1
over_one Idle = omega arith
over_one Ended = omega arith
over_one (Holds c j) = omega arith
over_one (Waits t) = omega arith
over_one (Served t) = omega arith
over_one (Lifted t) = omega arith
over_one (Laid t) = omega arith
over_one Joined = omega arith

module _ (plan : Plan) where
  pub opens : (ws : List ℕ) (ys : List Slot) → ws ≡ replicate (2 * plan.stripes + 1) 0 → AreOpen plan.layout plan.stripes ys → IsWithin plan → 1 ≤ plan.seats → IsKept plan (opening ws ys (first plan))
  opens ws ys is laid_out within low =
      let at : (i : ℕ) → get_or ws i 0 ≡ 0 = λ i. ap (λ (l : List ℕ). get_or l i 0) is ∙ zero_at (2 * plan.stripes + 1) i in
      let zero_next = at 0 in record {
        books = λ j. [];
        away = λ j. None;
        size = ap length is ∙ zeros_long (2 * plan.stripes + 1);
        slots = length-map ys some ∙ laid_out.count;
        within = within;
        accounts = record {
          drawn = λ c. sym (below_no c (min (get_or ws 0 0) plan.chunks) (omega arith));
          drawn_all = omega arith;
          few = omega arith;
          fair = λ k w there. one (IsFair plan.stripes) k w there record { owed = λ c j h. refl; owed_all = λ j h. refl; within = λ c j h. refl };
          knows = λ k w there. one (λ w. Knows plan.stripes (λ j. serving ws j) w.phase) k w there tt;
          balanced = λ j h. record {
            served = sym (at (2 * j + 2));
            booked = λ c. refl;
            held = λ n. let a = ap (below n) (at (2 * j + 2)) in let b = ap (below n) (at (2 * j + 1)) in omega arith;
            numbered = sym (at (2 * j + 1));
            lent = λ w e. absurd (none-some w e);
            lends = λ w (x, there, lift). absurd (one (λ w. lifts w.phase ≢ Some j) w x there (none-some j) lift);
          };
        };
        made = omega arith;
        shared = omega arith;
        over_at = omega arith;
        over_past = λ h. absurd (omega arith);
        seats = λ k v there. only (IsSeat plan (λ j. [])) k v there record { same = λ _. refl; live = λ e. absurd (omega arith); ended = λ _. omega arith; base = λ t h. absurd (no_lift t h); puts = All-nil (StandsIn (λ j. [])) };
        stripes = λ j h. let o = laid_out.each j h in record {
          count = sym (at (2 * j + 2));
          entries = λ t p got. absurd (none-some p got);
          once = λ t. sym (below_no t (get_or ws (2 * j + 2) 0) (let z = at (2 * j + 2) in omega arith));
          scalars = λ _. refl;
          home = λ _. (o.0, at_map some ys j (Some o.0) o.1, o.2);
        };
      }
    where
      no_lift : (t : Turn) → Idle ≢ Lifted t
      no_lift t e = cc

      only : (P : View → Type 0) (k : ℕ) (v : View) → get_elem? (first plan ∷ []) k ≡ some v → P (first plan) → P v
      only P zero v there h = subst P (some-injective (first plan) v there) h
      only P (suc k) v there h = absurd (some-ne-none v (sym there))

      one : (P : Worker → Type 0) (k : ℕ) (w : Worker) → slice_get (worker (first plan) ∷ []) k ≡ Some w → P (worker (first plan)) → P w
      one P zero w there h = subst P (same_Some (worker (first plan)) w there) h
      one P (suc k) w there h = absurd (none-some w there)

  pub splits : (id : ℕ) (v : View) → 0 < v.stands → 0 < v.spare → Splits (IsKept plan) id v (handed v) (fresh v)
  splits id v alive more s r at =
      let u : View = handed v in let w : View = fresh v in let l : List View = set s.views id u in let seat = r.seats id v at in
      let sums : (f : View → ℕ) → sum_by f (l ++ w ∷ []) ≡ sum_by f l + f w = λ (f : View → ℕ). sum_by_push f l w in
      let both : (f : View → ℕ) → f u ≡ f v → f w ≡ 0 → sum_by f (l ++ w ∷ []) ≡ sum_by f s.views = λ (f : View → ℕ) a b. let z = sums f in let y = sum_same f s.views id v u at a in omega arith in
      let stand = sum_same (λ (v : View). v.stands) s.views id v u at refl in let stand' = sums (λ (v : View). v.stands) in
      let spare = sum-set (λ (v : View). v.spare) s.views id v u at in let spare' = sums (λ (v : View). v.spare) in let shared = r.shared in
      let made = r.made in let long = length-append l (w ∷ []) in let long' = length-set s.views id u in let few = r.within.seats in
      let has_spare = part_of_sum (λ (v : View). v.spare) s.views id v at in let over_same = both (λ (v : View). v.ended) refl refl in
      let kept_worker : map worker s.views ++ newcomer Idle ∷ [] ≡ map worker (l ++ w ∷ []) =
      ap (λ (x : List Worker). x ++ newcomer Idle ∷ []) (sym (set_again (map worker s.views) id (worker v) (Rattle.gq_stripe.proofs.ListLemmas.found_at (map worker s.views) id (worker v) (got_mapped worker s.views id v at))) ∙ sym (map-set worker s.views id u))
      ∙ sym (map-append worker l (w ∷ [])) in
      let at_most = r.over_at in let past = r.over_past in let mapped = length-map s.views worker in record {
        books = r.books;
        away = r.away;
        size = r.size;
        slots = r.slots;
        within = r.within;
        accounts = shown plan.chunks plan.stripes (next s.words) (record { words = s.words; homes = s.homes; views = l ++ w ∷ [] }) r.books r.away (map worker s.views ++ newcomer Idle ∷ [])
            (split_keeps plan.chunks plan.stripes (core s r.books r.away) r.accounts (omega arith)) refl kept_worker;
        made = omega arith;
        shared = omega arith;
        over_at = omega arith;
        over_past = λ h. past (omega arith);
        seats = each_more (IsSeat plan r.books) l w record { same = λ _. seat.same alive; live = λ e. absurd (omega arith); ended = λ _. omega arith; base = λ t h. let d : Idle ≡ Lifted t = h in cc; puts = All-nil (StandsIn r.books) }
            (each_set (IsSeat plan r.books) s.views id u record { same = seat.same; live = λ e. absurd (omega arith); ended = seat.ended; base = seat.base; puts = seat.puts } r.seats);
        stripes = λ j h. let x = r.stripes j h in record {
          count = x.count;
          entries = x.entries;
          once = λ t. both (λ (v : View). put_with j t v.puts) refl refl ∙ x.once t;
          scalars = x.scalars;
          home = x.home;
        };
      }

  pub joins : (id : ℕ) (v : View) (other : ℕ) (w : View) → 0 < v.stands → 0 < w.stands → is_free v.phase ≡ true → is_free w.phase ≡ true → Joins (IsKept plan) id v other w (joined v w) spent
  joins id v other w alive alive' free free' s r at apart there =
      let u : View = joined v w in let l : List View = set s.views id u in let m : List View = set l other spent in
      let there' : get_elem? s.views other ≡ some w = sym (set_else s.views id other u apart) ∙ there in
      let sv = r.seats id v at in let sw = r.seats other w there' in let ev = sv.ended alive in let ew = sw.ended alive' in let ow = over_one w.phase in
      let sums : (f : View → ℕ) → f u ≡ f v + f w → f spent ≡ 0 → sum_by f m ≡ sum_by f s.views = λ (f : View → ℕ) a b. let z = sum-set f s.views id v u at in let y = sum-set f l other w spent there in omega arith in
      let stand = sums (λ (v : View). v.stands) refl refl in let spare = sums (λ (v : View). v.spare) refl refl in let over_same = sums (λ (v : View). v.ended) refl refl in
      let at_most = r.over_at in let past = r.over_past in let shared = r.shared in let made = r.made in let long = length-set s.views id u in let long' = length-set l other spent in
      let ws : List Worker = map worker s.views in
      let same_worker : gathered (worker v) (worker w) ≡ worker u = λ i. record { phase = v.phase; draws = v.draws ++ w.draws; puts = sym (map-append (λ (q : Put). (q.chunk, q.stripe)) v.puts w.puts) i } in
      let workers : set (set ws id (gathered (worker v) (worker w))) other (newcomer Joined) ≡ map worker m =
      ap (λ (x : Worker). set (set ws id x) other (newcomer Joined)) same_worker ∙ (ap (λ (x : List Worker). set x other (newcomer Joined)) (sym (map-set worker s.views id u)) ∙ sym (map-set worker l other spent)) in record {
        books = r.books;
        away = r.away;
        size = r.size;
        slots = r.slots;
        within = r.within;
        accounts = shown plan.chunks plan.stripes (next s.words) (record { words = s.words; homes = s.homes; views = m }) r.books r.away (set (set ws id (gathered (worker v) (worker w))) other (newcomer Joined))
            (join_keeps plan.chunks plan.stripes (core s r.books r.away) r.accounts id other (worker v) (worker w) (got_mapped worker s.views id v at) (got_mapped worker s.views other w there') apart
            (is_plain plan.stripes v.phase free) (is_plain plan.stripes w.phase free')) refl workers;
        made = omega arith;
        shared = omega arith;
        over_at = omega arith;
        over_past = λ h. past (omega arith);
        seats = each_set (IsSeat plan r.books) l other spent record { same = λ h. absurd (omega arith); live = λ _. refl; ended = λ h. absurd (omega arith); base = λ t h. let d : Joined ≡ Lifted t = h in cc; puts = All-nil (StandsIn r.books) }
            (each_set (IsSeat plan r.books) s.views id u record {
              same = λ _. sv.same alive;
              live = λ e. absurd (omega arith);
              ended = λ _. omega arith;
              base = λ t h. absurd (free_not_lifted v.phase free t h);
              puts = All-append (StandsIn r.books) v.puts w.puts sv.puts sw.puts;
            } r.seats);
        stripes = λ j h. let x = r.stripes j h in record {
          count = x.count;
          entries = x.entries;
          once = λ t. sums (λ (v : View). put_with j t v.puts) (put_with-append j t v.puts w.puts) refl ∙ x.once t;
          scalars = x.scalars;
          home = x.home;
        };
      }

  -- if a view represents all seats, the others are spent
  others_spent : (s : Table) (r : IsKept plan s) (id : ℕ) (v : View) → get_elem? s.views id ≡ some v → v.stands ≡ plan.seats → (k : ℕ) (u : View) → get_elem? (set s.views id spent) k ≡ some u → u ≡ spent
  others_spent s r id v at all k u there =
      let out = sum-set (λ (v : View). v.stands) s.views id v spent at in let shared = r.shared in
      let mine = part_of_sum (λ (v : View). v.stands) (set s.views id spent) k u there in
      each_set (λ (w : View). w.stands ≡ 0 → w ≡ spent) s.views id spent (λ _. refl) (λ j w at. (r.seats j w at).live) k u there (omega arith)

  -- then it has all draws, once a seat has ended, and all puts, if it holds no chunk
  whole : (s : Table) (r : IsKept plan s) (id : ℕ) (v : View) → get_elem? s.views id ≡ some v → v.stands ≡ plan.seats → 0 < v.ended → is_free v.phase ≡ true → length v.puts ≡ plan.chunks * plan.stripes
  whole s r id v at all ended free =
      let ws : List Worker = map worker s.views in let there = got_mapped worker s.views id v at in
      let mine = part_of_sum (λ (v : View). v.ended) s.views id v at in let past = r.over_past in let over_next : plan.chunks < next s.words = past (omega arith) in
      let out = total-set (λ (w : Worker). length w.draws) ws id (worker v) (worker spent) there in
      let others : total (λ (w : Worker). length w.draws) (set ws id (worker spent)) ≡ 0 = ap (total (λ (w : Worker). length w.draws)) (sym (map-set worker s.views id spent))
      ∙ total_none (λ (w : Worker). length w.draws) (map worker (set s.views id spent)) (λ k w got.
      let x = from_mapped worker (set s.views id spent) k w got in ap (λ (w : Worker). length w.draws) (sym x.2) ∙ ap (λ (u : View). length u.draws) (others_spent s r id v at all k x.0 x.1)) in
      let drawn = r.accounts.drawn_all in let draws : length v.draws ≡ plan.chunks = omega arith in
      let fair = r.accounts.fair id (worker v) there in let plain = is_plain plan.stripes v.phase free in
      sym (length-map v.puts (λ (q : Put). (q.chunk, q.stripe)))
      ∙ puts_in_all plan.stripes plan.chunks (worker v).puts fair.within (λ j inside. let a = fair.owed_all j inside in let b = plain.owes_all j in omega arith)

  pub counts : (slots id : ℕ) (me : Known) → Allows (IsKept plan) slots id me 0 (λ n. n) (Counts (step slots 0 0 0 none) me)
  counts slots id me s r _ at _ =
      let v : View = me.0 in let few = r.within.seats in let shared = r.shared in
      let stands = part_of_sum (λ (v : View). v.stands) s.views id v at in let spare = part_of_sum (λ (v : View). v.spare) s.views id v at in
      let there = got_mapped worker s.views id v at in let seat = r.seats id v at in (
        v,
        keeps,
        tt,
        subst (λ (z : List ℕ × List View). IsKept plan (record { words = z.0; homes = s.homes; views = z.1 })) (λ i. (sym (set-get_or s.words 0 0) i, sym (set_again s.views id v at) i)) r,
        record {
          same = refl;
          seats = omega arith;
          few = few_draws plan s r id v at;
          once = λ c. let drawn = r.accounts.drawn c in let mine = total_at (λ (w : Worker). times c w.draws) (map worker s.views) id (worker v) there in let b = below_one c (min (next s.words) plan.chunks) in omega arith;
          whole = λ all ended free.
              let alive : 0 < v.stands = dite (ℕ_discrete v.stands 0) (λ (e : v.stands ≡ 0). let z = ap (λ (u : View). u.ended) (seat.live e) in absurd (omega arith)) (λ (ne : v.stands ≢ 0). omega arith) in
              let of = seat.same alive in
              whole s r id v at (all ∙ ap (λ (o : Plan). o.seats) of) ended free ∙ ap (λ (o : Plan). o.chunks * o.stripes) (sym of);
        },
      )
