-- LeaveLemmas: a leave keeps the rule. The stripe comes back with one more put, and the next ticket is served.
use Rattle.std.proofs.Common.{◌≡◌, ℕ, zero, suc, ◌+◌, ◌*◌, ◌%◌, ◌^◌, ◌<◌, ◌≤◌, ◌≢◌, ◌⊎◌, ⊎_elim, inl, inr, ◌==◌, ◌&&◌, ◌||◌, nat_lt, Bool, true, false, if◌then◌else◌, min, List, [], ◌∷◌, ◌++◌, length, map, set, get_or, slice_get, Option, Some, None, sym, refl, ap, ap₂, ◌∙◌, subst, arith, eq-eqb, ne_eqb, lt-ltb, le-ltb, length-set, length-append, get_or-set_same, get_or-set_other}
use Rattle.std.specs.Prelude.{All}
use Rattle.std.specs.List.{sum_by}
use Rattle.std.proofs.lemmas.Option.{none-some, same_Some}
use Rattle.std.proofs.lemmas.List.{set-set, map-append}
use Rattle.std.proofs.lemmas.List.Folds.{list_any-append}
use Rattle.std.proofs.lemmas.List.Elements.{All-append, All-cons, All-nil, All-head, All-tail}
use mathlib.Core.Option.{none, some}
use mathlib.Core.Option as maybe
use mathlib.Core.Logic.{dite}
use native.Mathlib.Decide.{ℕ_discrete, dec_le, dec_lt}
use lib.ListN.{get_elem?}
use Rattle.atomic_table.specs.Table.{step, gives, Allows}
use Rattle.atomic_table.proofs.Lists.{set_here, set_else, at_set}
use Rattle.gq_core.specs.declared.worker.Turn.{Turn}
use Rattle.gq_core.specs.declared.worker.Phase.{Phase}
use Rattle.gq_core.specs.declared.worker.Phase.TheVariants.{Idle, Holds, Lifted, Laid}
use Rattle.gq_core.specs.declared.worker.Worker.{Worker}
use Rattle.gq_core.specs.Machine.{in_phase}
use Rattle.gq_core.specs.Accounts.{one_if, below, lifts, ticket_of, Knows, HasLifted, Accounts}
use Rattle.gq_core.proofs.TotalLemmas.{is, is_same, below_no, below-next, first_same, first_other, second_other, at_same}
use Rattle.gq_core.proofs.StripeLemmas.{quiet_holds, quiet_idle}
use Rattle.gq_core.proofs.MoveLemmas.{lay_keeps}
use Rattle.gq_core.proofs.LeaveLemmas.{IsBehind, leave_keeps}
use Rattle.gq_stripe.specs.declared.view.Plan.{Plan}
use Rattle.gq_stripe.specs.declared.view.Put.{Put}
use Rattle.gq_stripe.specs.declared.view.View.{View}
use Rattle.gq_stripe.specs.declared.stripe.Stripe.{Stripe}
use Rattle.gq_stripe.specs.Contents.{FitsBatch, any_spoiled, all_scalar}
use Rattle.gq_stripe.specs.Laid.{IsLaid}
use Rattle.gq_stripe.specs.Rule.{Slot, Table, next, tickets, serving, worker, core, put_with, StandsIn, over, IsSeat, IsEntry, IsStripe, IsKept}
use Rattle.gq_stripe.specs.Steps.{Known, away_spoiled, behind, made_put, left, Leaves}
use Rattle.gq_stripe.proofs.ListLemmas.{within, sum-set, sum_same, map-set, got_mapped, get_front, get_last, get_split}
use Rattle.gq_stripe.proofs.RuleLemmas.{shown, seat_same}
use Rattle.gq_stripe.proofs.TurnLemmas.{few_tickets, known, regrouped, held_below, with_away, away_here, away_else}

pub put_with-append : (j t : ℕ) (ps qs : List Put) → put_with j t (ps ++ qs) ≡ put_with j t ps + put_with j t qs
put_with-append j t [] qs = omega arith
put_with-append j t (p ∷ ps) qs = let r = put_with-append j t ps qs in omega arith

-- where a chunk is put after a stripe
is_behind : (stripes : ℕ) (t : Turn) → t.stripe < stripes → IsBehind stripes t (behind stripes t)
is_behind stripes t inside = dite (dec_lt (t.stripe + 1) stripes)
    (λ (h : t.stripe + 1 < stripes). subst (IsBehind stripes t) (ap (λ (q : Bool). if q then Holds t.chunk (t.stripe + 1) else Idle) (sym (lt-ltb (t.stripe + 1) stripes h)))
    record { owes = λ c i _. refl; owes_all = λ i _. refl; knows = λ _. h; quiet = λ i. quiet_holds i t.chunk (t.stripe + 1) })
    (λ (h : ¬ (t.stripe + 1 < stripes)). subst (IsBehind stripes t) (ap (λ (q : Bool). if q then Holds t.chunk (t.stripe + 1) else Idle) (sym (le-ltb (t.stripe + 1) stripes (omega arith))))
    record {
      owes = λ c i less. sym (second_other (c == t.chunk) (nat_lt (t.stripe + 1) (i + 1)) (le-ltb (t.stripe + 1) (i + 1) (omega arith)));
      owes_all = λ i less. sym (below_no (t.stripe + 1) (i + 1) (omega arith));
      knows = λ _. tt;
      quiet = quiet_idle;
    })

-- after a stripe a seat hasn't ended, and has no stripe away
behind_over : (stripes : ℕ) (t : Turn) → over (behind stripes t) ≡ 0
behind_over stripes t = go (nat_lt (t.stripe + 1) stripes)
  where
    go : (q : Bool) → over (if q then Holds t.chunk (t.stripe + 1) else Idle) ≡ 0
    go true = refl
    go false = refl

behind_lifted : (stripes : ℕ) (t u : Turn) → behind stripes t ≢ Lifted u
behind_lifted stripes t u = go (nat_lt (t.stripe + 1) stripes)
  where
    go : (q : Bool) → (if q then Holds t.chunk (t.stripe + 1) else Idle) ≢ Lifted u
    go true e = cc
    go false e = cc

-- the books with one more put at stripe j
abbrev grown : (ℕ → List Put) → ℕ → Put → ℕ → List Put
grown books j p i = if i == j then books j ++ p ∷ [] else books i

grown_here : (books : ℕ → List Put) (j : ℕ) (p : Put) (i : ℕ) → i ≡ j → grown books j p i ≡ books j ++ p ∷ []
grown_here books j p i e = ap (λ (q : Bool). if q then books j ++ p ∷ [] else books i) (eq-eqb i j e)

grown_else : (books : ℕ → List Put) (j : ℕ) (p : Put) (i : ℕ) → i ≢ j → grown books j p i ≡ books i
grown_else books j p i ne = ap (λ (q : Bool). if q then books j ++ p ∷ [] else books i) (ne_eqb i j ne)

still_stands : (books : ℕ → List Put) (j : ℕ) (p q : Put) → StandsIn books q → StandsIn (grown books j p) q
still_stands books j p q h = dite (ℕ_discrete q.stripe j)
    (λ (e : q.stripe ≡ j). ap (λ (l : List Put). slice_get l q.ticket) (grown_here books j p q.stripe e)
    ∙ get_front (books j) (p ∷ []) q.ticket q (ap (λ (i : ℕ). slice_get (books i) q.ticket) (sym e) ∙ h))
    (λ (ne : q.stripe ≢ j). ap (λ (l : List Put). slice_get l q.ticket) (grown_else books j p q.stripe ne) ∙ h)

all_stand : (books : ℕ → List Put) (j : ℕ) (p : Put) (ps : List Put) → All (StandsIn books) ps → All (StandsIn (grown books j p)) ps
all_stand books j p ps h k d less = still_stands books j p (get_or ps k d) (h k d less)

module _ (plan : Plan) where
  left_by : (slots id : ℕ) (v : View) (t : Turn) (k : ℕ) (stripe : Stripe) → v.phase ≡ Lifted t → k ≡ 2 * t.stripe + 2 → 0 < v.stands → v.of ≡ plan
      → IsLaid plan.layout plan.stripes t.stripe (v.base ++ made_put v t stripe.spoiled ∷ []) stripe → FitsBatch plan.layout plan.stripes t.stripe v.batch → (all_scalar plan.layout ≡ true → stripe.spoiled ≡ false)
      → Allows (IsKept plan) slots id (v, (t.stripe, Some stripe) ∷ []) k (λ n. (n + 1) % 2 ^ 64) (Leaves (step slots k 1 0 none) (v, (t.stripe, Some stripe) ∷ []))
  left_by slots id v t k stripe phase place alive of laid fits scalars s r _ at _ =
      let j : ℕ = t.stripe in let x : ℕ = get_or s.words k 0 in let n : ℕ = (x + 1) % 18446744073709551616 in
      let p : Put = made_put v t stripe.spoiled in let u : View = left v t stripe.spoiled in let ws : List Worker = map worker s.views in
      let knows = known plan s r id v at (Lifted t) phase in let inside : j < plan.stripes = knows.0 in let turn : t.ticket ≡ serving s.words j = knows.1 in
      let here : x ≡ serving s.words j = ap (λ (z : ℕ). get_or s.words z 0) place in
      let seat = r.seats id v at in let base : v.base ≡ r.books j = seat.base t phase in let ended = seat.ended alive in let was = ap over phase in let now = behind_over v.of.stripes t in
      let few = few_tickets plan s r j inside in let chunks = r.within.chunks in let long = r.size in let deep = r.slots in
      let held = held_below plan s r id v j t.ticket at inside (let a = ap (ticket_of j t.ticket) phase in let d = first_same (j == t.stripe) (t.ticket == t.ticket) (eq-eqb j t.stripe refl) in let g = is_same t.ticket t.ticket refl in omega arith) in
      let up : n ≡ x + 1 = omega arith in
      let words : List ℕ = set s.words k n in
      let ticks : (i : ℕ) → tickets words i ≡ tickets s.words i = λ i. get_or-set_other s.words k (2 * i + 1) n 0 (λ e. even i j (e ∙ place)) in
      let first : next words ≡ next s.words = get_or-set_other s.words k 0 n 0 (λ e. omega arith) in
      let mine : (i : ℕ) → i ≡ j → serving words i ≡ serving s.words i + 1 = λ i e. ap (λ (z : ℕ). get_or words (2 * z + 2) 0) e
      ∙ (ap (λ (z : ℕ). get_or words z 0) (sym place) ∙ (get_or-set_same s.words k n 0 (omega arith) ∙ (up ∙ ap (λ (z : ℕ). z + 1) (here ∙ ap (serving s.words) (sym e))))) in
      let other : (i : ℕ) → i ≢ j → serving words i ≡ serving s.words i = λ i ne. get_or-set_other s.words k (2 * i + 2) n 0 (λ e. ne (omega arith)) in
      let books' : ℕ → List Put = grown r.books j p in let away' : ℕ → Option ℕ = with_away plan r.away j None in
      let homes : List (maybe.Option Slot) = set s.homes j (some (Some stripe)) in
      let s' : Table = record { words = words; homes = homes; views = set s.views id u } in
      let book : ℕ → List ℕ = λ i. map (λ (q : Put). q.chunk) (r.books i) in let book' : ℕ → List ℕ = λ i. map (λ (q : Put). q.chunk) (books' i) in
      let there = got_mapped worker s.views id v at in
      let a : Worker = in_phase (Laid t) (worker v) in
      let b : Worker = record { phase = behind plan.stripes t; draws = v.draws; puts = map (λ (q : Put). (q.chunk, q.stripe)) v.puts ++ (t.chunk, j) ∷ [] } in
      let one = lay_keeps plan.chunks plan.stripes (core s r.books r.away) r.accounts id (worker v) there t (λ i. tickets s.words i) (λ i. serving s.words i) book' away' phase (λ i. refl) (λ i. refl)
      (ap (map (λ (q : Put). q.chunk)) (grown_here r.books j p j refl) ∙ map-append (λ (q : Put). q.chunk) (r.books j) (p ∷ [])) (λ i ne. ap (map (λ (q : Put). q.chunk)) (grown_else r.books j p i ne))
      (away_here plan r.away j None j refl) (away_else plan r.away j None) in
      let two = leave_keeps plan.chunks plan.stripes (record { next = next s.words; tickets = λ i. tickets s.words i; serving = λ i. serving s.words i; book = book'; away = away'; workers = set ws id a }) one
      id a (at_same ws id (worker v) a there) t (λ i. tickets words i) (λ i. serving words i) book' away' (behind plan.stripes t) refl (is_behind plan.stripes t inside) ticks (mine j refl) other (λ i. refl) (λ i. refl) in
      let same_worker : b ≡ worker u = λ i. record { phase = behind (sym (ap (λ (o : Plan). o.stripes) of) i) t; draws = v.draws; puts = sym (map-append (λ (q : Put). (q.chunk, q.stripe)) v.puts (p ∷ [])) i } in
      let away_other : (k : ℕ) (w : View) (t' : Turn) → k ≢ id → get_elem? s.views k ≡ some w → w.phase ≡ Lifted t' → t'.stripe ≢ j = λ k w t' apart at' phase' e. (
      let lends = (r.accounts.balanced j inside).lends in let his = lends k (worker w, got_mapped worker s.views k w at', ap lifts phase' ∙ ap Some e) in let own = lends id (worker v, there, ap lifts phase) in
      apart (same_Some k id (sym his ∙ own))) in (
        u,
        gives,
        tt,
        regrouped plan s r id v u at words homes books' away' (length-set s.words k n) (length-set s.homes j (some (Some stripe))) first refl refl refl
            (shown plan.chunks plan.stripes (next s.words) s' books' away' (set (set ws id a) id b) two (sym first) (set-set ws id a b ∙ (ap (set ws id) same_worker ∙ sym (map-set worker s.views id u))))
            (λ i w there'. ⊎_elim
            (λ (e : (i ≡ id) × (u ≡ w)). subst (IsSeat plan books') e.1 record {
              same = λ _. of;
              live = λ e. absurd (omega arith);
              ended = λ _. omega arith;
              base = λ t' h. absurd (behind_lifted v.of.stripes t t' h);
              puts = All-append (StandsIn books') v.puts (p ∷ []) (all_stand r.books j p v.puts seat.puts)
                  (All-cons (StandsIn books') p [] (ap (λ (l : List Put). slice_get l t.ticket) (grown_here r.books j p j refl) ∙ get_last (r.books j) t.ticket p ((r.stripes j inside).count ∙ sym turn)) (All-nil (StandsIn books')));
            })
            (λ (e : (i ≢ id) × (get_elem? s.views i ≡ some w)). let h = r.seats i w e.1 in record {
              same = h.same;
              live = h.live;
              ended = h.ended;
              base = λ t' phase'. h.base t' phase' ∙ sym (grown_else r.books j p t'.stripe (away_other i w t' e.0 e.1 phase'));
              puts = all_stand r.books j p w.puts h.puts;
            })
            (at_set s.views id i u w there'))
            (λ i h. let y = r.stripes i h in let z : (m : ℕ) → _ = λ m. sum-set (λ (v : View). put_with i m v.puts) s.views id v u at in let l : (m : ℕ) → _ = λ m. put_with-append i m v.puts (p ∷ []) in dite (ℕ_discrete i j)
            (λ (e : i ≡ j). let is_grown = grown_here r.books j p i e in record {
              count = ap length is_grown ∙ (length-append (r.books j) (p ∷ []) ∙ (let c = (r.stripes j inside).count in let m = mine i e in let f = ap (serving s.words) e in omega arith));
              entries = λ m q got. ⊎_elim
                  (λ (old : slice_get (r.books j) m ≡ Some q). let f = (r.stripes j inside).entries m q old in record { stripe = f.stripe ∙ sym e; ticket = f.ticket; fits = subst (λ (c : ℕ). FitsBatch plan.layout plan.stripes c q.batch) (sym e) f.fits })
                  (λ (last : (m ≡ length (r.books j)) × (p ≡ q)). subst (IsEntry plan i m) last.1 record { stripe = sym e; ticket = turn ∙ (sym (r.stripes j inside).count ∙ sym last.0); fits = subst (λ (c : ℕ). FitsBatch plan.layout plan.stripes c v.batch) (sym e) fits })
                  (get_split (r.books j) p m q (ap (λ (l : List Put). slice_get l m) (sym is_grown) ∙ got));
              once = λ m. let o = y.once m in let a = z m in let c = l m in let f = first_same (i == j) (m == t.ticket) (eq-eqb i j e) in let g = ap (below m) (mine i e) in let d = below-next m (serving s.words i) in
                  let w : is m t.ticket ≡ is m (serving s.words i) = ap (is m) (turn ∙ ap (serving s.words) (sym e)) in omega arith;
              scalars = λ all. ap any_spoiled is_grown ∙ (list_any-append (λ (q : Put). q.spoiled) (r.books j) (p ∷ []) ∙ ap₂ (λ (c d : Bool). c || (d || false)) ((r.stripes j inside).scalars all) (scalars all));
              home = λ _. (
                stripe,
                ap (get_elem? homes) e ∙ set_here s.homes j (some (Some stripe)) (omega arith),
                subst (λ (c : ℕ). IsLaid plan.layout plan.stripes c (books' i) stripe) (sym e) (subst (λ (l : List Put). IsLaid plan.layout plan.stripes j l stripe) (ap (λ (l : List Put). l ++ p ∷ []) base ∙ sym is_grown) laid),
              );
            })
            (λ (ne : i ≢ j). let not_grown = grown_else r.books j p i ne in record {
              count = ap length not_grown ∙ (y.count ∙ sym (other i ne));
              entries = λ m q got. y.entries m q (ap (λ (l : List Put). slice_get l m) (sym not_grown) ∙ got);
              once = λ m. let o = y.once m in let a = z m in let c = l m in let f = first_other (i == j) (m == t.ticket) (ne_eqb i j ne) in let g = ap (below m) (other i ne) in omega arith;
              scalars = λ all. ap any_spoiled not_grown ∙ y.scalars all;
              home = λ e. let w = y.home (sym (away_else plan r.away j None i ne) ∙ e) in
                  (w.0, set_else s.homes j i (some (Some stripe)) ne ∙ w.1, subst (λ (l : List Put). IsLaid plan.layout plan.stripes i l w.0) (sym not_grown) w.2);
            })),
        λ t' phase'. (refl, ap (λ (q : Phase). leaving q) (sym phase ∙ phase')),
      )
    where
      even : (i j : ℕ) → ¬ (2 * i + 1 ≡ 2 * j + 2)
      even i j e = omega arith

      leaving : Phase → View
      leaving (Lifted t) = left v t stripe.spoiled
      leaving q = v

  pub leave_one : (slots id : ℕ) (me : Known) (t : Turn) (k : ℕ) (stripe : Stripe) → me.0.phase ≡ Lifted t → k ≡ 2 * t.stripe + 2 → 0 < me.0.stands → me.0.of ≡ plan → me.1 ≡ (t.stripe, Some stripe) ∷ []
      → IsLaid plan.layout plan.stripes t.stripe (me.0.base ++ made_put me.0 t stripe.spoiled ∷ []) stripe → FitsBatch plan.layout plan.stripes t.stripe me.0.batch → (all_scalar plan.layout ≡ true → stripe.spoiled ≡ false)
      → Allows (IsKept plan) slots id me k (λ n. (n + 1) % 2 ^ 64) (Leaves (step slots k 1 0 none) me)
  leave_one slots id me t k stripe phase place alive of carried laid fits scalars =
      subst (λ (cs : List (ℕ × Slot)). Allows (IsKept plan) slots id (me.0, cs) k (λ n. (n + 1) % 2 ^ 64) (Leaves (step slots k 1 0 none) (me.0, cs))) (sym carried)
      (left_by slots id me.0 t k stripe phase place alive of laid fits scalars)
