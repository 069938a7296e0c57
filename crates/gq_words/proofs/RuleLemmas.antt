-- Each step keeps the rule; and what is known at the end.
use Rattle.std.proofs.Common.{◌≡◌, ℕ, zero, suc, ◌+◌, ◌-◌, ◌%◌, ◌^◌, ◌<◌, ◌≤◌, ◌≢◌, List, [], ◌∷◌, ◌++◌, map, length, get_or, take, set, slice_get, Some, sym, refl, ap, ◌∙◌, subst, ⊎_elim, cond, arith, length-set, get_or-set_same, get_or-set_other, eq-eqb, ne_eqb, length-append}
use Rattle.std.proofs.lemmas.Option.{slice_get_within, slice_get-get_or}
use Rattle.std.proofs.lemmas.List.{length-map, length-take, get_or-take}
use Rattle.std.proofs.lemmas.List.Sums.{sum_by_push}
use mathlib.Core.Logic.{dite}
use mathlib.Core.Option.{none, some, some-injective, some-ne-none}
use native.Mathlib.Decide.{ℕ_discrete}
use lib.ListN.{get_elem?}
use lib.Seq.{set-get_or}
use Rattle.atomic_table.specs.Table.{State, step, keeps, opening, Allows, Splits, Joins, Final, Seen}
use Rattle.atomic_table.proofs.Lists.{at_set, at_snoc, set_again, set_else}
use Rattle.gq_words.specs.declared.fold.Op.{Op}
use Rattle.gq_words.specs.declared.view.View.{View}
use Rattle.gq_words.specs.declared.view.Opening.{Opening}
use Rattle.gq_words.specs.Fold.{applied, folded}
use Rattle.gq_words.specs.Rule.{view, openings, all_feeds, made, unmade, spent, IsKept, first, with_feed, Known, Feeds, Counts, Looks, handed, fresh, joined}
use Rattle.gq_words.specs.Seats.{AreFolds}
use Rattle.gq_words.proofs.ListLemmas.{read_at, sum-set, part_of_sum, part_of_none, sum_none, place_within, same_first, seconds_at, last_behind}
use Rattle.gq_words.proofs.FoldLemmas.{after, all_fed, all_joined, all_same, all-snoc, all_alone}

abbrev stands : View → ℕ
stands v = v.stands

abbrev spare : View → ℕ
spare v = v.spare

-- a view that represents no seat is spent
abbrev IsLive : View → Type 0
IsLive v = v.stands ≡ 0 → v ≡ spent

abbrev AreLive : List View → Type 0
AreLive vs = (k : ℕ) (v : View) → get_elem? vs k ≡ some v → IsLive v

live-set : (vs : List View) (k : ℕ) (w : View) → IsLive w → AreLive vs → AreLive (set vs k w)
live-set vs k w mine others j v at = ⊎_elim (λ (t : (j ≡ k) × (w ≡ v)). subst IsLive t.1 mine) (λ (t : (j ≢ k) × (get_elem? vs j ≡ some v)). others j v t.1) (at_set vs k j w v at)

live-snoc : (vs : List View) (w : View) → IsLive w → AreLive vs → AreLive (vs ++ w ∷ [])
live-snoc vs w mine others j v at = ⊎_elim (others j v) (λ (t : w ≡ v). subst IsLive t mine) (at_snoc vs w v j at)

after_here : (op : Op) (i x w : ℕ) → after op i (i, x) w ≡ applied op w x
after_here op i x w = subst (λ b. cond b (applied op w x) w ≡ applied op w x) (sym (eq-eqb i i refl)) refl

after_else : (op : Op) (i j x w : ℕ) → i ≢ j → after op j (i, x) w ≡ w
after_else op i j x w apart = subst (λ b. cond b (applied op w x) w ≡ w) (sym (ne_eqb i j apart)) refl

module _ (key : Opening) where
  abbrev Table : Type 0
  Table = State (Unit {0}) View

  abbrev count : ℕ
  count = length (openings key)

  -- a feed to a word, by the operation of that word
  pub feeds : (slots id : ℕ) (me : Known) (i : ℕ) (op : Op) (x : ℕ) → 0 < me.0.stands → slice_get (map (λ (o : Op × ℕ). o.0) (openings key)) i ≡ Some op
      → Allows (IsKept key) slots id me i (λ w. applied op w x) (Feeds (step slots i x 0 none) me)
  feeds slots id me i op x live has s r _ at _ =
      let v : View = me.0 in let u : View = with_feed v i x in let n : ℕ = applied op (get_or s.words i 0) x in
      let inside : i < count = place_within (openings key) i op has in let size = r.size in
      let seats = sum-set stands s.views id v u at in let spares = sum-set spare s.views id v u at in (
        u,
        keeps,
        tt,
        record {
          size = length-set s.words i n ∙ size;
          folds = λ j op' w has'. dite (ℕ_discrete j i)
              (λ e. let same : op ≡ op' = same_first (openings key) i op op' w has (subst (λ (z : ℕ). slice_get (openings key) z ≡ Some (op', w)) e has') in
              let was : get_or s.words i 0 ≡ folded op' w i (all_feeds s.views) = subst (λ (z : ℕ). get_or s.words z 0 ≡ folded op' w z (all_feeds s.views)) e (r.folds j op' w has') in
              subst (λ (z : ℕ). get_or (set s.words i n) z 0 ≡ folded op' w z (all_feeds (set s.views id u))) (sym e)
              (get_or-set_same s.words i n 0 (omega arith)
              ∙ (ap (λ (p : Op × ℕ). applied p.0 p.1 x) (λ k. (same k, was k))
              ∙ sym (all_fed op' i w s.views id v u (i, x) at refl ∙ after_here op' i x (folded op' w i (all_feeds s.views))))))
              (λ apart. get_or-set_other s.words i j n 0 apart
              ∙ (r.folds j op' w has'
              ∙ sym (all_fed op' j w s.views id v u (i, x) at refl ∙ after_else op' i j x (folded op' w j (all_feeds s.views)) (λ e. apart (sym e)))));
          counts = get_or-set_other s.words i count n 0 (λ e. omega arith) ∙ (r.counts ∙ omega arith);
          shared = let h = r.shared in omega arith;
          few = r.few;
          live = live-set s.views id u (λ z. absurd (omega arith)) r.live;
        },
        (refl, refl),
      )

  -- one more seat is counted
  pub counts_one : (slots id : ℕ) (me : Known) (k : ℕ) → k ≡ count → 0 < me.0.stands → 0 < me.0.spare
      → Allows (IsKept key) slots id me k (λ n. (n + 1) % 2 ^ 64) (Counts (step slots k 1 0 none) me)
  counts_one slots id me k last live more s r _ at _ =
      let v : View = me.0 in let u : View = view (v.stands + 1) (v.spare - 1) v.feeds in let x : ℕ = get_or s.words k 0 in let n : ℕ = (x + 1) % 18446744073709551616 in
      let seats = sum-set stands s.views id v u at in let spares = sum-set spare s.views id v u at in let size = r.size in let share = r.shared in let few = r.few in
      let is : x ≡ made s.views = ap (λ (z : ℕ). get_or s.words z 0) last ∙ r.counts in
      let spare_at : v.spare ≤ unmade s.views = part_of_sum spare s.views id v at in
      let up : n ≡ x + 1 = omega arith in (
        u,
        keeps,
        tt,
        record {
          size = length-set s.words k n ∙ size;
          folds = λ j op w has. get_or-set_other s.words k j n 0 (λ e. let inside = slice_get_within (openings key) j (op, w) has in omega arith)
              ∙ (r.folds j op w has ∙ sym (ap (folded op w j) (all_same s.views id v u at refl)));
          counts = ap (λ (z : ℕ). get_or (set s.words k n) z 0) (sym last) ∙ (get_or-set_same s.words k n 0 (omega arith) ∙ omega arith);
          shared = omega arith;
          few = r.few;
          live = live-set s.views id u (λ z. absurd (omega arith)) r.live;
        },
        (refl, refl),
      )

  pub looks : (slots id : ℕ) (me : Known) → Allows (IsKept key) slots id me 0 (λ n. n) (Looks (step slots 0 0 0 none) me)
  looks slots id me s r _ at _ =
      let seats = part_of_sum stands s.views id me.0 at in let spares = part_of_sum spare s.views id me.0 at in let share = r.shared in let few = r.few in (
        me.0,
        keeps,
        tt,
        subst (λ (z : List ℕ × List View). IsKept key record { words = z.0; homes = s.homes; views = z.1 }) (λ i. (sym (set-get_or s.words 0 0) i, sym (set_again s.views id me.0 at) i)) r,
        (refl, omega arith),
      )

  pub splits : (id : ℕ) (v : View) → 1 < v.stands → Splits (IsKept key) id v (handed v) (fresh v)
  splits id v more s r at =
      let u : View = handed v in let vs : List View = set s.views id u in
      let seats = sum-set stands s.views id v u at in let spares = sum-set spare s.views id v u at in
      let seats' = sum_by_push stands vs (fresh v) in let spares' = sum_by_push spare vs (fresh v) in
      record {
        size = r.size;
        folds = λ j op w has. r.folds j op w has ∙ sym (ap (folded op w j) (all-snoc vs (fresh v) refl ∙ all_same s.views id v u at refl));
        counts = r.counts ∙ omega arith;
        shared = let h = r.shared in omega arith;
        few = r.few;
        live = live-snoc vs (fresh v) (λ z. absurd (omega arith)) (live-set s.views id u (λ z. absurd (omega arith)) r.live);
      }

  pub joins : (id : ℕ) (v : View) (other : ℕ) (w : View) → 0 < v.stands → Joins (IsKept key) id v other w (joined v w) spent
  joins id v other w live s r at apart there =
      let u : View = joined v w in let vs : List View = set s.views id u in
      let seats = sum-set stands s.views id v u at in let spares = sum-set spare s.views id v u at in
      let seats' = sum-set stands vs other w spent there in let spares' = sum-set spare vs other w spent there in
      let there' : get_elem? s.views other ≡ some w = sym (set_else s.views id other u apart) ∙ there in
      record {
        size = r.size;
        folds = λ j op o has. r.folds j op o has ∙ all_joined op j o s.views id other v w at there' apart;
        counts = r.counts ∙ omega arith;
        shared = let h = r.shared in omega arith;
        few = r.few;
        live = live-set vs other spent (λ _. refl) (live-set s.views id u (λ z. absurd (omega arith)) r.live);
      }

  pub opens : (ws : List ℕ) → 1 ≤ key.seats → key.seats ≤ 1024 → ws ≡ map (λ (o : Op × ℕ). o.1) (openings key) ++ 1 ∷ [] → IsKept key (opening ws [] (first key))
  opens ws low high is = record {
    size = ap length is ∙ (length-append (map (λ (o : Op × ℕ). o.1) (openings key)) (1 ∷ []) ∙ ap (λ (n : ℕ). n + 1) (length-map (openings key) (λ (o : Op × ℕ). o.1)));
    folds = λ i op w has. ap (λ (l : List ℕ). get_or l i 0) is ∙ seconds_at (openings key) i op w 1 has;
    counts = ap (λ (l : List ℕ). get_or l count 0) is ∙ last_behind (openings key) 1;
    shared = omega arith;
    few = high;
    live = λ k v at. only k v at;
  }
    where
      only : (k : ℕ) (v : View) → get_elem? (first key ∷ []) k ≡ some v → IsLive v
      only zero v at = subst IsLive (some-injective (first key) v at) (λ z. absurd (omega arith))
      only (suc k) v at = absurd (some-ne-none v (sym at))

  -- at the end n seats were made; the number is the word at the place k
  made_is : (id : ℕ) (v : View) (ws : List ℕ) (xs : List (Unit {0})) (k n : ℕ) → k ≡ count → get_elem? ws k ≡ some n → (end : Final (Seen (IsKept key) id v) ws xs) → made end.0.views ≡ n
  made_is id v ws xs k n last found end =
      sym end.1.0.counts ∙ (ap (λ (l : List ℕ). get_or l count 0) end.2 ∙ (ap (λ (z : ℕ). get_or ws z 0) (sym last) ∙ read_at ws k n 0 found))

  pub ends : (id : ℕ) (v : View) (ws : List ℕ) (xs : List (Unit {0})) (k n : ℕ) → k ≡ count → get_elem? ws k ≡ some n → Final (Seen (IsKept key) id v) ws xs
      → ((s : Table) × Seen (IsKept key) id v s × (made s.views ≡ n)) × (n + v.spare ≤ key.seats) × (n ≤ 1024)
  ends id v ws xs k n last found end =
      let is = made_is id v ws xs k n last found end in
      let share = end.1.0.shared in let few = end.1.0.few in let mine = part_of_sum spare end.0.views id v end.1.1 in
      ((end.0, end.1, is), omega arith, omega arith)

  -- if a view represents all seats that were made, the others are spent
  others_spent : (id : ℕ) (v : View) (s : Table) → Seen (IsKept key) id v s → made s.views ≤ v.stands → (k : ℕ) (u : View) → get_elem? (set s.views id spent) k ≡ some u → u ≡ spent
  others_spent id v s seen all k u there =
      let out = sum-set stands s.views id v spent seen.1 in
      live-set s.views id spent (λ _. refl) seen.0.live k u there (part_of_none stands (set s.views id spent) (omega arith) k u there)

  -- if as many were made as the seat represents
  pub ends_whole : (id : ℕ) (v : View) (ws : List ℕ) (xs : List (Unit {0})) (k n : ℕ) → k ≡ count → get_elem? ws k ≡ some n → Final (Seen (IsKept key) id v) ws xs → n ≤ v.stands
      → AreFolds (openings key) v.feeds (take k ws) × ((s : Table) × Seen (IsKept key) id v s × (made s.views ≡ v.stands) × (all_feeds s.views ≡ v.feeds) × (v.stands + v.spare ≡ key.seats))
  ends_whole id v ws xs k n last found end all =
      let is = made_is id v ws xs k n last found end in let mine = part_of_sum stands end.0.views id v end.1.1 in
      let alone = others_spent id v end.0 end.1 (omega arith) in
      let fed : all_feeds end.0.views ≡ v.feeds = all_alone end.0.views id v end.1.1 (λ k u there. ap (λ (m : View). m.feeds) (alone k u there)) in
      let out = sum-set spare end.0.views id v spent end.1.1 in
      let none_spare = sum_none spare (set end.0.views id spent) (λ k u there. ap spare (alone k u there)) in
      let share = end.1.0.shared in
      let wide : length ws ≡ count + 1 = ap length (sym end.2) ∙ end.1.0.size in
      let long : length (take k ws) ≡ count = omega (arith, length-take k ws) in (
        record {
          size = long;
          each = λ i op w has.
              let inside : i < count = slice_get_within (openings key) i (op, w) has in
              slice_get-get_or (take k ws) i 0 (omega arith)
              ∙ ap Some (get_or-take k ws i 0 (omega arith)
              ∙ (ap (λ (l : List ℕ). get_or l i 0) (sym end.2) ∙ (end.1.0.folds i op w has ∙ ap (folded op w i) fed)));
        },
        (end.0, end.1, omega arith, fed, omega arith),
      )
