-- EndLemmas: what a seat knows at the end, when it has all puts.
use Rattle.std.proofs.Common.{◌≡◌, ℕ, zero, suc, ◌+◌, ◌*◌, ◌%◌, ◌/◌, ◌<◌, ◌≤◌, ◌≢◌, ◌⊎◌, ⊎_elim, ◌==◌, ◌&&◌, nat_lt, Bool, true, false, min, List, [], ◌∷◌, ◌++◌, length, map, set, get_or, slice_get, Option, Some, None, sym, refl, ap, ap₂, ◌∙◌, subst, arith, length-append}
use Rattle.std.specs.Prelude.{All, unwrap_or}
use Rattle.std.specs.List.{sum_by}
use Rattle.std.proofs.lemmas.Option.{none-some, same_Some}
use Rattle.std.proofs.lemmas.List.{length-map}
use mathlib.Core.Option.{some}
use mathlib.Core.Logic.{dite}
use native.Mathlib.Decide.{ℕ_discrete, dec_lt}
use lib.ListN.{get_elem?}
use Rattle.atomic_table.specs.Table.{Final, Seen}
use Rattle.atomic_table.proofs.Lists.{at_last, at_longer}
use Rattle.gq_value.specs.declared.kind.Kind.{Kind}
use Rattle.gq_value.specs.AccumViews.{accum_of}
use Rattle.gq_nest.specs.declared.content.Content.{Content}
use Rattle.gq_nest.specs.Shows.{Shows}
use Rattle.gq_core.specs.declared.worker.Turn.{Turn}
use Rattle.gq_core.specs.declared.worker.Phase.{Phase}
use Rattle.gq_core.specs.declared.worker.Phase.TheVariants.{Idle, Ended, Holds, Waits, Served, Lifted, Laid, Joined}
use Rattle.gq_core.specs.declared.worker.Worker.{Worker}
use Rattle.gq_core.specs.Accounts.{one_if, below, times, total, put_at, put_of, owes_at, owes_of, ticket_at, lifts, Accounts}
use Rattle.gq_core.proofs.TotalLemmas.{is_same, below_yes, second_other, total-set, total_at, total_two, total_agrees, times-append}
use Rattle.gq_stripe.specs.declared.view.Plan.{Plan}
use Rattle.gq_stripe.specs.declared.view.Put.{Put}
use Rattle.gq_stripe.specs.declared.view.View.{View}
use Rattle.gq_stripe.specs.declared.stripe.Stripe.{Stripe}
use Rattle.gq_stripe.specs.declared.partials.Partials.{Partials}
use Rattle.gq_stripe.specs.Contents.{FitsInput, FitsBatch, content_after, HoldsAll, inputs_of}
use Rattle.gq_stripe.specs.Laid.{IsLaid}
use Rattle.gq_stripe.specs.Rule.{Slot, Table, next, tickets, serving, worker, core, put_with, spent, IsSeat, IsStripe, IsKept}
use Rattle.gq_stripe.specs.Ending.{IsTakenAt, AreTaken, IsTakenBehind}
use Rattle.gq_stripe.specs.Seats.{IsWhole, puts_wanted, content_at, HasContents}
use Rattle.gq_stripe.proofs.ListLemmas.{each_set, sum-set, sum_none, got_mapped, got_at}
use Rattle.gq_stripe.proofs.RuleLemmas.{ticket_owed}
use Rattle.gq_stripe.proofs.CountLemmas.{puts_in_all, puts_at_each}
use Rattle.gq_stripe.proofs.OrderLemmas.{FitsPut, same_content}

-- a put owed for one chunk is owed in all
one_owed : (c j : ℕ) (p : Phase) → owes_of c j p ≤ owes_at j p
one_owed c j Idle = omega arith
one_owed c j Ended = omega arith
one_owed c j (Holds x i) = both_less (c == x) (nat_lt i (j + 1))
  where
    both_less : (a b : Bool) → one_if (a && b) ≤ one_if b
    both_less true b = Rattle.std.proofs.Common.le_refl (one_if b)
    both_less false b = omega arith
one_owed c j (Waits t) = both_less (c == t.chunk) (nat_lt t.stripe (j + 1))
  where
    both_less : (a b : Bool) → one_if (a && b) ≤ one_if b
    both_less true b = Rattle.std.proofs.Common.le_refl (one_if b)
    both_less false b = omega arith
one_owed c j (Served t) = both_less (c == t.chunk) (nat_lt t.stripe (j + 1))
  where
    both_less : (a b : Bool) → one_if (a && b) ≤ one_if b
    both_less true b = Rattle.std.proofs.Common.le_refl (one_if b)
    both_less false b = omega arith
one_owed c j (Lifted t) = both_less (c == t.chunk) (nat_lt t.stripe (j + 1))
  where
    both_less : (a b : Bool) → one_if (a && b) ≤ one_if b
    both_less true b = Rattle.std.proofs.Common.le_refl (one_if b)
    both_less false b = omega arith
one_owed c j (Laid t) = both_less (c == t.chunk) (nat_lt t.stripe (j + 1))
  where
    both_less : (a b : Bool) → one_if (a && b) ≤ one_if b
    both_less true b = Rattle.std.proofs.Common.le_refl (one_if b)
    both_less false b = omega arith
one_owed c j Joined = omega arith

-- a seat that has a stripe away has a ticket there
away_ticket : (j : ℕ) (p : Phase) → lifts p ≡ Some j → ticket_at j p ≡ 1
away_ticket j Idle e = absurd (none-some j e)
away_ticket j Ended e = absurd (none-some j e)
away_ticket j (Holds c i) e = absurd (none-some j e)
away_ticket j (Waits t) e = absurd (none-some j e)
away_ticket j (Served t) e = absurd (none-some j e)
away_ticket j (Lifted t) e = is_same j t.stripe (sym (same_Some t.stripe j e))
away_ticket j (Laid t) e = absurd (none-some j e)
away_ticket j Joined e = absurd (none-some j e)

-- tickets at a stripe are puts there
with_at : (j t : ℕ) (ps : List Put) → put_with j t ps ≤ put_at j (map (λ (q : Put). (q.chunk, q.stripe)) ps)
with_at j t [] = omega arith
with_at j t (p ∷ ps) = let r = with_at j t ps in let a = less (j == p.stripe) (t == p.ticket) in omega arith
  where
    less : (a b : Bool) → one_if (a && b) ≤ one_if a
    less true true = omega arith
    less true false = omega arith
    less false b = omega arith

module _ (plan : Plan) (s : Table) (r : IsKept plan s) (id : ℕ) (v : View) (at : get_elem? s.views id ≡ some v) where
  there : slice_get (map worker s.views) id ≡ Some (worker v)
  there = got_mapped worker s.views id v at

  -- the seat has put at each stripe at most as often as there are chunks
  few_at : (j : ℕ) → j < plan.stripes → put_at j (worker v).puts ≤ plan.chunks
  few_at j inside =
      let owed = (r.accounts.fair id (worker v) there).owed_all j inside in let all = r.accounts.drawn_all in
      let mine = total_at (λ (w : Worker). length w.draws) (map worker s.views) id (worker v) there in omega arith

  module _ (all : puts_wanted plan ≤ length v.puts) where
    puts_each : (j : ℕ) → j < plan.stripes → put_at j (worker v).puts ≡ plan.chunks
    puts_each = puts_at_each plan.stripes plan.chunks (worker v).puts (r.accounts.fair id (worker v) there).within few_at
        (subst (λ (n : ℕ). puts_wanted plan ≤ n) (sym (length-map v.puts (λ (q : Put). (q.chunk, q.stripe)))) all)

    -- no seat owes anything, and no other seat has put anything
    nobody : (j : ℕ) → j < plan.stripes → (k : ℕ) (x : Worker) → slice_get (map worker s.views) k ≡ Some x → owes_at j x.phase ≡ 0
    nobody j inside k x got =
        let drawn = r.accounts.drawn_all in let mine = puts_each j inside in
        let owed = (r.accounts.fair k x got).owed_all j inside in let own = (r.accounts.fair id (worker v) there).owed_all j inside in
        let top = total_at (λ (w : Worker). length w.draws) (map worker s.views) id (worker v) there in
        dite (ℕ_discrete k id)
        (λ (e : k ≡ id). let same : worker v ≡ x = same_Some (worker v) x (sym there ∙ (ap (slice_get (map worker s.views)) (sym e) ∙ got)) in
        let z : owes_at j v.phase ≡ 0 = omega arith in ap (λ (w : Worker). owes_at j w.phase) (sym same) ∙ z)
        (λ (ne : k ≢ id). let two = total_two (λ (w : Worker). length w.draws) (map worker s.views) id k (worker v) x there got ne in omega arith)

    no_others : (j : ℕ) → j < plan.stripes → (k : ℕ) (x : Worker) → slice_get (map worker s.views) k ≡ Some x → k ≢ id → put_at j x.puts ≡ 0
    no_others j inside k x got ne =
        let drawn = r.accounts.drawn_all in let mine = puts_each j inside in
        let owed = (r.accounts.fair k x got).owed_all j inside in let own = (r.accounts.fair id (worker v) there).owed_all j inside in
        let two = total_two (λ (w : Worker). length w.draws) (map worker s.views) id k (worker v) x there got ne in omega arith

    -- so each stripe is at home
    at_home : (j : ℕ) → j < plan.stripes → r.away j ≡ None
    at_home j inside = go (r.away j) refl
      where
        go : (o : Option ℕ) → r.away j ≡ o → r.away j ≡ None
        go None e = e
        go (Some w) e =
            let has = (r.accounts.balanced j inside).lent w e in let a = away_ticket j has.0.phase has.2 in let b = ticket_owed j has.0.phase in let z = nobody j inside w has.0 has.1 in absurd (omega arith)

    -- the seat has all tickets of the stripe
    own_tickets : (j : ℕ) → j < plan.stripes → (t : ℕ) → put_with j t v.puts ≡ below t (length (r.books j))
    own_tickets j inside t =
        let f : View → ℕ = λ (u : View). put_with j t u.puts in
        let once = (r.stripes j inside).once t in let count = ap (below t) (r.stripes j inside).count in let out = sum-set f s.views id v spent at in
        let others = sum_none f (set s.views id spent) (λ k u got. ⊎_elim
        (λ (e : (k ≡ id) × (spent ≡ u)). ap f (sym e.1))
        (λ (e : (k ≢ id) × (get_elem? s.views k ≡ some u)). let a = with_at j t u.puts in let z = no_others j inside k (worker u) (got_mapped worker s.views k u e.1) e.0 in omega arith)
        (Rattle.atomic_table.proofs.Lists.at_set s.views id k spent u got)) in omega arith

    all_whole : IsWhole plan v
    all_whole = (
      sym (length-map v.puts (λ (q : Put). (q.chunk, q.stripe))) ∙ puts_in_all plan.stripes plan.chunks (worker v).puts (r.accounts.fair id (worker v) there).within puts_each,
      λ c j less inside.
          let fair = r.accounts.fair id (worker v) there in let owed = fair.owed c j inside in let drawn = r.accounts.drawn c in
          let none_owed = one_owed c j v.phase in let z = nobody j inside id (worker v) there in
          let all_at = fair.owed_all j inside in let each = puts_each j inside in let drawn_all = r.accounts.drawn_all in
          let mine = total_at (λ (w : Worker). length w.draws) (map worker s.views) id (worker v) there in
          let top : min (next s.words) plan.chunks ≡ plan.chunks = omega arith in let one = below_yes c plan.chunks less in let d = ap (below c) top in
          let alone : total (λ (w : Worker). times c w.draws) (map worker s.views) ≡ times c v.draws = only_mine c (λ k x got ne.
          let two = total_two (λ (w : Worker). length w.draws) (map worker s.views) id k (worker v) x there got ne in omega arith) in omega arith,
    )
      where
        times_none : (c : ℕ) (xs : List ℕ) → length xs ≡ 0 → times c xs ≡ 0
        times_none c [] e = refl
        times_none c (x ∷ xs) e = absurd (omega arith)

        only_mine : (c : ℕ) → ((k : ℕ) (x : Worker) → slice_get (map worker s.views) k ≡ Some x → k ≢ id → length x.draws ≡ 0) → total (λ (w : Worker). times c w.draws) (map worker s.views) ≡ times c v.draws
        only_mine c none =
            let ws : List Worker = map worker s.views in let out = total-set (λ (w : Worker). times c w.draws) ws id (worker v) (worker spent) there in
            let others = Rattle.gq_stripe.proofs.CountLemmas.total_none (λ (w : Worker). times c w.draws) (set ws id (worker spent))
            (Rattle.gq_core.proofs.TotalLemmas.each_set (λ (k : ℕ) (w : Worker). times c w.draws ≡ 0) ws id (worker v) (worker spent) there refl (λ k x ne got. times_none c x.draws (none k x got ne))) in omega arith

    -- the content of a target that was taken is the one after all its inputs in the seat's puts
    stands : (stripes : List (List Content)) (xs : List Slot) → AreTaken plan.stripes xs stripes → ((k : ℕ) (y : Slot) → get_elem? s.homes k ≡ some (some y) → get_elem? xs k ≡ some y)
        → (target : ℕ) (kind : Kind) → slice_get plan.layout target ≡ Some kind
        → (content : Content) × (slice_get (unwrap_or (slice_get stripes (target % length stripes)) []) (target / length stripes) ≡ Some content) × Shows (accum_of kind) content (content_after kind target (inputs_of v.puts))
    stands stripes xs taken kept target kind is =
        let n : ℕ = plan.stripes in let some_stripes = r.within.stripes in let j : ℕ = target % n in let inside : j < n = Rattle.std.proofs.Common.mod-lt target (omega arith) in
        let home = (r.stripes j inside).home (at_home j inside) in let t = taken.each j inside in
        let same : home.0 ≡ t.stripe = of_some home.0 t.stripe (Rattle.gq_stripe.proofs.ListLemmas.same_some (Some home.0) (Some t.stripe) (sym (kept j (Some home.0) home.1) ∙ t.is)) in
        let laid : IsLaid plan.layout n j (r.books j) t.stripe = subst (IsLaid plan.layout n j (r.books j)) same home.2 in
        let held = (laid.holds t.fine).each target kind is refl in
        let fit : Rattle.std.specs.Prelude.All (FitsPut plan.layout n) (r.books j) = λ k d less. fits_entry j inside k (get_or (r.books j) k d) (read (r.books j) k d less) in
        let fits : Rattle.std.specs.Prelude.All (FitsPut plan.layout n) v.puts = λ k d less. own_fit (get_or v.puts k d) ((r.seats id v at).puts k d less) (own_within k d less) in
        let after = same_content plan.layout n target kind (r.books j) v.puts is fit fits (λ k d less e. ap (λ (i : ℕ). slice_get (r.books i) (get_or v.puts k d).ticket) (sym e) ∙ (r.seats id v at).puts k d less) (own_tickets j inside) in (
          held.content,
          ap (λ (m : ℕ). slice_get (unwrap_or (slice_get stripes (target % m)) []) (target / m)) taken.count ∙ (ap (λ o. slice_get (unwrap_or o []) (target / n)) (got_at stripes j t.stripe.contents t.contents) ∙ held.is),
          subst (Shows (accum_of kind) held.content) after held.shows,
        )
      where
        stripe_or : Stripe → Slot → Stripe
        stripe_or d (Some x) = x
        stripe_or d None = d

        of_some : (x y : Stripe) → Some x ≡ Some y → x ≡ y
        of_some x y e = ap (stripe_or x) e

        read : (ps : List Put) (k : ℕ) (d : Put) → k < length ps → slice_get ps k ≡ Some (get_or ps k d)
        read [] k d h = absurd (omega arith)
        read (p ∷ ps) zero d h = refl
        read (p ∷ ps) (suc k) d h = read ps k d (omega arith)

        fits_entry : (j : ℕ) → j < plan.stripes → (k : ℕ) (p : Put) → slice_get (r.books j) k ≡ Some p → FitsPut plan.layout plan.stripes p
        fits_entry j inside k p got = let e = (r.stripes j inside).entries k p got in subst (λ (i : ℕ). Rattle.std.specs.Prelude.All (FitsInput plan.layout plan.stripes i) p.batch) (sym e.stripe) e.fits.each

        own_fit : (p : Put) → slice_get (r.books p.stripe) p.ticket ≡ Some p → p.stripe < plan.stripes → FitsPut plan.layout plan.stripes p
        own_fit p got inside = fits_entry p.stripe inside p.ticket p got

        -- each of the seat's puts is at an existing stripe
        put_here : (ps : List Put) (k : ℕ) (d : Put) → k < length ps → 0 < put_of (get_or ps k d).chunk (get_or ps k d).stripe (map (λ (q : Put). (q.chunk, q.stripe)) ps)
        put_here [] k d h = absurd (omega arith)
        put_here (p ∷ ps) zero d h = let a = Rattle.gq_core.proofs.TotalLemmas.first_same (p.chunk == p.chunk) (p.stripe == p.stripe) (Rattle.std.proofs.Common.eq-eqb p.chunk p.chunk refl) in let b = is_same p.stripe p.stripe refl in omega arith
        put_here (p ∷ ps) (suc k) d h = let r = put_here ps k d (omega arith) in omega arith

        own_within : (k : ℕ) (d : Put) → k < length v.puts → (get_or v.puts k d).stripe < plan.stripes
        own_within k d less = let q : Put = get_or v.puts k d in dite (dec_lt q.stripe plan.stripes) (λ h. h)
            (λ (h : ¬ (q.stripe < plan.stripes)). let z = (r.accounts.fair id (worker v) there).within q.chunk q.stripe (omega arith) in let a = put_here v.puts k d less in absurd (omega arith))

pub finished : (plan : Plan) (id : ℕ) (v : View) (ws : List ℕ) (xs : List Slot) → Final (Seen (IsKept plan) id v) ws xs → puts_wanted plan ≤ length v.puts → IsWhole plan v
finished plan id v ws xs f all = all_whole plan f.0 f.1.0 id v f.1.1 all

pub contents_of : (plan : Plan) (id : ℕ) (v : View) (ws : List ℕ) (xs : List Slot) (partials : Partials) → Final (Seen (IsKept plan) id v) ws xs → puts_wanted plan ≤ length v.puts
    → AreTaken plan.stripes xs partials.stripes.items → HasContents plan v.puts partials
contents_of plan id v ws xs partials f all taken = record { each = stands plan f.0 f.1.0 id v f.1.1 all partials.stripes.items xs taken f.4 }

-- one more stripe was taken
pub one_taken : (j : ℕ) (xs : List Slot) (old new : List (List Content)) (y : Slot) → get_elem? xs j ≡ some y → AreTaken j xs old → IsTakenBehind y old new → AreTaken (j + 1) xs new
one_taken j xs old new y at before (stripe, is, fine, grown) = record {
  count = ap length grown ∙ (length-append old (stripe.contents ∷ []) ∙ ap (λ (n : ℕ). n + 1) before.count);
  each = λ k less. dite (ℕ_discrete k j)
      (λ (e : k ≡ j). record { stripe = stripe; is = ap (get_elem? xs) e ∙ (at ∙ ap some is); fine = fine; contents = ap (λ l. get_elem? l k) grown ∙ (ap (get_elem? (old ++ stripe.contents ∷ [])) e ∙ at_last old stripe.contents j before.count) })
      (λ ne. let t = before.each k (omega arith) in record { stripe = t.stripe; is = t.is; fine = t.fine; contents = ap (λ l. get_elem? l k) grown ∙ at_longer old (stripe.contents ∷ []) k t.stripe.contents t.contents });
}

-- the same for the seat's own numbers, after a look that changed nothing
module _ (plan : Plan) (id : ℕ) (v w : View) (ws : List ℕ) (xs : List Slot) (same : w ≡ v) (f : Final (Seen (IsKept plan) id w) ws xs) (wanted puts : ℕ) (wanted_is : wanted ≡ puts_wanted plan) (puts_is : length v.puts ≡ puts) (all : wanted ≤ puts) where
  all_made : puts_wanted plan ≤ length v.puts
  all_made = subst (λ (z : ℕ × ℕ). z.0 ≤ z.1) (λ i. (wanted_is i, sym puts_is i)) all

  final_of : Final (Seen (IsKept plan) id v) ws xs
  final_of = subst (λ (u : View). Final (Seen (IsKept plan) id u) ws xs) same f

  pub closes_whole : IsWhole plan v
  closes_whole = finished plan id v ws xs final_of all_made

  pub closes_contents : (partials : Partials) (stripes : ℕ) → stripes ≡ plan.stripes → AreTaken stripes xs partials.stripes.items → HasContents plan v.puts partials
  closes_contents partials stripes e taken = contents_of plan id v ws xs partials final_of all_made (subst (λ (n : ℕ). AreTaken n xs partials.stripes.items) e taken)
