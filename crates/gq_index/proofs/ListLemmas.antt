-- ListLemmas: walks by type, the effect of adding a walk, and the lists that hold them.
use Rattle.std.proofs.Common.{inl, inr, ℕ, suc, ◌+◌, ◌-◌, ◌<◌, ◌≤◌, ◌≡◌, ◌≢◌, Bool, true, false, cond, set, List, [], ◌∷◌, ◌++◌, ◌==◌, length, get_or, take, drop, map, replicate, refl, ap, ap₂, sym, ◌∙◌, subst, arith, leb, leb-true, le-leb, eq-eqb, append-nil, length-append, length-set}
use Rattle.std.specs.List.{filter, All, insert}
use Rattle.std.specs.List.Sorted.{IsPartitionPoint, IsPartitionedBy}
use Rattle.std.proofs.lemmas.List.{get_or_default, append_assoc, map-append, get_or_append_left, get_or-append_right, get_or-replicate, length-replicate, get_or-map, length-map, take-map, drop-map, get_or-set_same, get_or-set_other, map-set, replicate-append-replicate}
use Rattle.std.proofs.lemmas.List.Elements.{filter-append, All-nil, All-cons, All-append, All-weaker, All-get_or}
use Rattle.std.proofs.Math.Seq.{take-append_seam, drop-append_seam}
use Rattle.std.proofs.lemmas.Bool.Decides.{nat_tests}
use Rattle.std.proofs.lemmas.Bool.{cases_eq}
use Rattle.gq_index.specs.declared.walks.Traversal.{Traversal}
use Rattle.gq_index.specs.declared.walks.Neighbor.{Neighbor}
use Rattle.gq_index.specs.Walks.{no_walk, walk_at, walked, ways_at, by_type, taken_from, AreListed}
use Rattle.gq_index.proofs.PlaceLemmas.{nat_up}
use Rattle.gq_index.proofs.WalkLemmas.{flat_map_below, lt_or_le}

-- ---- one more walk, under a test

pub kept_push : (p : Traversal → Bool) (walks : List Traversal) (w : Traversal) → p w ≡ true → filter p (walks ++ w ∷ []) ≡ filter p walks ++ w ∷ []
kept_push p walks w e = filter-append p walks (w ∷ []) ∙ ap (λ b. filter p walks ++ cond b (w ∷ []) []) e

pub dropped_push : (p : Traversal → Bool) (walks : List Traversal) (w : Traversal) → p w ≡ false → filter p (walks ++ w ∷ []) ≡ filter p walks
dropped_push p walks w e = filter-append p walks (w ∷ []) ∙ ap (λ b. filter p walks ++ cond b (w ∷ []) []) e ∙ append-nil (filter p walks)

pub differs : (n k : ℕ) → n ≢ k → (n == k) ≡ false
differs n k h = grind (arith, nat_tests)

-- ---- walks by type

abbrev typed : ℕ → List Traversal → List Traversal
typed e walks = filter (λ (walk : Traversal). walk.kind == e) walks

typed_kind : (e : ℕ) (walks : List Traversal) → All (λ (w : Traversal). w.kind ≡ e) (typed e walks)
typed_kind e [] = All-nil (λ (w : Traversal). w.kind ≡ e)
typed_kind e (x ∷ xs) =
    let P : Traversal → Type 0 = λ w. w.kind ≡ e in
    elim (cases_eq x.kind e) [
      | inl same ↦ subst (λ b. All P (cond b (x ∷ typed e xs) (typed e xs))) (sym (eq-eqb x.kind e same)) (All-cons P x (typed e xs) same (typed_kind e xs))
      | inr other ↦ subst (λ b. All P (cond b (x ∷ typed e xs) (typed e xs))) (sym (differs x.kind e other)) (typed_kind e xs)
    ]

pub by_type_more : (n : ℕ) (walks : List Traversal) → by_type (n + 1) walks ≡ by_type n walks ++ typed n walks
unfolding by_type
by_type_more n walks = flat_map_below (λ e. typed e walks) n

pub by_type_zero : (walks : List Traversal) → by_type 0 walks ≡ []
unfolding by_type
by_type_zero walks = refl

pub by_type_none : (n : ℕ) → by_type n [] ≡ []
by_type_none = nat_up (λ n. by_type n [] ≡ []) (by_type_zero []) (λ n before. by_type_more n [] ∙ ap (λ l. l ++ []) before)

by_type_low : (walks : List Traversal) (n : ℕ) → All (λ (w : Traversal). w.kind < n) (by_type n walks)
by_type_low walks = nat_up P (subst (All (λ (w : Traversal). w.kind < 0)) (sym (by_type_zero walks)) (All-nil (λ (w : Traversal). w.kind < 0))) step
  where
    P : ℕ → Type 0
    P n = All (λ (w : Traversal). w.kind < n) (by_type n walks)

    step : (n : ℕ) → P n → P (n + 1)
    step n before =
        subst (All (λ (w : Traversal). w.kind < n + 1)) (sym (by_type_more n walks))
        (All-append (λ (w : Traversal). w.kind < n + 1) (by_type n walks) (typed n walks)
        (All-weaker (λ (w : Traversal). w.kind < n) (λ (w : Traversal). w.kind < n + 1) (λ w h. omega arith) (by_type n walks) before)
        (All-weaker (λ (w : Traversal). w.kind ≡ n) (λ (w : Traversal). w.kind < n + 1) (λ w h. omega arith) (typed n walks) (typed_kind n walks)))

-- a walk of a higher type doesn't change the walks of lower types
by_type_under : (walks : List Traversal) (w : Traversal) (n : ℕ) → n ≤ w.kind → by_type n (walks ++ w ∷ []) ≡ by_type n walks
by_type_under walks w = nat_up P (λ _. by_type_zero (walks ++ w ∷ []) ∙ sym (by_type_zero walks)) step
  where
    P : ℕ → Type 0
    P n = n ≤ w.kind → by_type n (walks ++ w ∷ []) ≡ by_type n walks

    step : (n : ℕ) → P n → P (n + 1)
    step n before h =
        by_type_more n (walks ++ w ∷ []) ∙ ap (λ l. l ++ typed n (walks ++ w ∷ [])) (before (omega arith))
        ∙ ap (λ l. by_type n walks ++ l) (dropped_push (λ (walk : Traversal). walk.kind == n) walks w (differs w.kind n (λ e. absurd (omega arith))))
        ∙ sym (by_type_more n walks)

-- a walk is inserted after those of its type and lower types, and before the rest
record Parted (k count : ℕ) (walks : List Traversal) (w : Traversal) : Type 0 where
  rest : List Traversal
  whole : by_type count walks ≡ by_type (k + 1) walks ++ rest
  more : by_type count (walks ++ w ∷ []) ≡ by_type (k + 1) walks ++ w ∷ rest
  above : All (λ (x : Traversal). k < x.kind) rest

parted : (k : ℕ) (walks : List Traversal) (w : Traversal) → w.kind ≡ k → (count : ℕ) → k < count → Parted k count walks w
parted k walks w is = nat_up P (λ h. absurd (omega arith)) step
  where
    P : ℕ → Type 0
    P count = k < count → Parted k count walks w

    first : Parted k (k + 1) walks w
    first = record {
      rest = [];
      whole = sym (append-nil (by_type (k + 1) walks));
      more = by_type_more k (walks ++ w ∷ []) ∙ ap (λ l. l ++ typed k (walks ++ w ∷ [])) (by_type_under walks w k (omega (arith, is)))
          ∙ ap (λ l. by_type k walks ++ l) (kept_push (λ (walk : Traversal). walk.kind == k) walks w (eq-eqb w.kind k is))
          ∙ sym (append_assoc (by_type k walks) (typed k walks) (w ∷ [])) ∙ ap (λ l. l ++ w ∷ []) (sym (by_type_more k walks));
      above = All-nil (λ (x : Traversal). k < x.kind);
    }

    after : (n : ℕ) → k < n → Parted k n walks w → Parted k (n + 1) walks w
    after n h before = record {
      rest = before.rest ++ typed n walks;
      whole = by_type_more n walks ∙ ap (λ l. l ++ typed n walks) before.whole ∙ append_assoc (by_type (k + 1) walks) before.rest (typed n walks);
      more = by_type_more n (walks ++ w ∷ []) ∙ ap (λ l. l ++ typed n (walks ++ w ∷ [])) before.more
          ∙ ap (λ l. (by_type (k + 1) walks ++ w ∷ before.rest) ++ l) (dropped_push (λ (walk : Traversal). walk.kind == n) walks w (differs w.kind n (λ e. absurd (omega (arith, is, e)))))
          ∙ append_assoc (by_type (k + 1) walks) (w ∷ before.rest) (typed n walks);
      above = All-append (λ (x : Traversal). k < x.kind) before.rest (typed n walks) before.above
          (All-weaker (λ (x : Traversal). x.kind ≡ n) (λ (x : Traversal). k < x.kind) (λ x e. omega arith) (typed n walks) (typed_kind n walks));
    }

    step : (n : ℕ) → P n → P (n + 1)
    step n before h = elim (lt_or_le k n) [
      | inl low ↦ after n low (before low)
      | inr high ↦ let same : k ≡ n = omega arith in subst (λ (m : ℕ). Parted k (m + 1) walks w) same first
    ]

-- the end of a list whose last element passes
pub last_place : {X : Type 0} (p : X → Bool) (xs : List X) (last : ℕ) (x : X) → length xs ≡ last + 1 → p (get_or xs last x) ≡ true
    → IsPartitionedBy p xs → IsPartitionPoint (λ y. p y ≡ true) (λ y. p y ≡ false) xs (length xs)
last_place p xs last x long passes parts =
    ((λ i d low within. parts i last d (omega (arith, long)) (omega (arith, long)) (ap p (get_or_default xs last d x (omega (arith, long))) ∙ passes)), λ i d high within. absurd (omega arith))

-- ---- inserting a way

module _ (k v : ℕ) (list : List Neighbor) (low rest : List Traversal) (are : map (walked v) list ≡ low ++ rest)
    (under : All (λ (w : Traversal). w.kind < k + 1) low) (above : All (λ (w : Traversal). k < w.kind) rest) where
  long : length list ≡ length low + length rest
  long = sym (length-map list (walked v)) ∙ ap length are ∙ length-append low rest

  kind_at : (i : ℕ) (d : Neighbor) → i < length list → (get_or list i d).kind ≡ (walk_at (low ++ rest) i).kind
  kind_at i d h = ap (λ (w : Traversal). w.kind) (sym (get_or-map (walked v) list i d no_walk h) ∙ ap (λ l. walk_at l i) are)

  low_at : (i : ℕ) (d : Neighbor) → i < length low → (get_or list i d).kind ≤ k
  low_at i d h =
      omega (
        arith,
        long,
        kind_at i d (omega (arith, long)),
        ap (λ (w : Traversal). w.kind) (get_or_append_left low rest no_walk i h),
        All-get_or (λ (w : Traversal). w.kind < k + 1) low i no_walk h under,
      )

  high_at : (i : ℕ) (d : Neighbor) → length low ≤ i → i < length list → k < (get_or list i d).kind
  high_at i d l h =
      omega (
        arith,
        long,
        kind_at i d h,
        ap (λ (w : Traversal). w.kind) (get_or-append_right low rest (length low) i no_walk refl l),
        All-get_or (λ (w : Traversal). k < w.kind) rest (i - length low) no_walk (omega (arith, long)) above,
      )

  pub is_parted : IsPartitionedBy (λ (y : Neighbor). leb y.kind k) list
  is_parted i j d le h passes = elim (lt_or_le j (length low)) [
    | inl here ↦ le-leb _ _ (low_at i d (omega arith))
    | inr past ↦ absurd (omega (arith, high_at j d past h, leb-true _ _ passes))
  ]

  pub place_is : (p : ℕ) → p ≤ length list
      → IsPartitionPoint (λ (y : Neighbor). leb y.kind k ≡ true) (λ (y : Neighbor). leb y.kind k ≡ false) list p → p ≡ length low
  place_is p bound point = elim (lt_or_le p (length low)) [
    | inl less ↦ absurd (not_both (point.1 p no_way (omega arith) (omega (arith, long))) (le-leb _ _ (low_at p no_way less)))
    | inr more ↦ elim (lt_or_le (length low) p) [
      | inl greater ↦ absurd (omega (arith, high_at (length low) no_way (omega arith) (omega arith), leb-true _ _ (point.0 (length low) no_way (omega arith) greater)))
      | inr same ↦ omega arith
    ]
  ]
    where
      no_way : Neighbor
      no_way = record { kind = 0; row = 0; target = 0 }

      not_both : {b : Bool} → b ≡ false → b ≡ true → ⊥
      not_both e f = cc

  pub inserted_is : (way : Neighbor) → map (walked v) (insert list (length low) way) ≡ low ++ walked v way ∷ rest
  inserted_is way =
      map-append (walked v) (take (length low) list) (way ∷ drop (length low) list)
      ∙ ap (λ l. l ++ walked v way ∷ map (walked v) (drop (length low) list)) (sym (take-map (walked v) (length low) list) ∙ ap (take (length low)) are ∙ take-append_seam low rest)
      ∙ ap (λ l. low ++ walked v way ∷ l) (sym (drop-map (walked v) (length low) list) ∙ ap (drop (length low)) are ∙ drop-append_seam low rest)

pub inserted : (count v p : ℕ) (list new : List Neighbor) (way : Neighbor) (walks : List Traversal) → way.kind < count
    → map (walked v) list ≡ by_type count walks → p ≤ length list
    → (IsPartitionedBy (λ (y : Neighbor). leb y.kind way.kind) list
    → IsPartitionPoint (λ (y : Neighbor). leb y.kind way.kind ≡ true) (λ (y : Neighbor). leb y.kind way.kind ≡ false) list p)
    → new ≡ insert list p way → map (walked v) new ≡ by_type count (walks ++ walked v way ∷ [])
inserted count v p list new way walks low are bound point is =
    let k = way.kind in
    let parts = parted k walks (walked v way) refl count low in
    let whole = are ∙ parts.whole in
    let under = by_type_low walks (k + 1) in
    let here = place_is k v list (by_type (k + 1) walks) parts.rest whole under parts.above p bound
    (point (is_parted k v list (by_type (k + 1) walks) parts.rest whole under parts.above)) in
    ap (map (walked v)) (is ∙ ap (λ i. insert list i way) here)
    ∙ inserted_is k v list (by_type (k + 1) walks) parts.rest whole under parts.above way ∙ sym parts.more

-- ---- lists of ways

pub listed_more : (n count : ℕ) (lists : List (List Neighbor)) (new : List Neighbor) (walks : List Traversal) (w : Traversal) → w.source < n
    → AreListed n count lists walks
    → (map (walked w.source) (ways_at lists w.source) ≡ by_type count (taken_from w.source walks)
    → map (walked w.source) new ≡ by_type count (taken_from w.source walks ++ w ∷ []))
    → AreListed n count (set lists w.source new) (walks ++ w ∷ [])
listed_more n count lists new walks w there before more = record { long = length-set lists w.source new ∙ before.long; own = own }
  where
    here : map (walked w.source) (ways_at (set lists w.source new) w.source) ≡ by_type count (taken_from w.source (walks ++ w ∷ []))
    here =
        ap (map (walked w.source)) (get_or-set_same lists w.source new [] (omega (arith, before.long)))
        ∙ more (before.own w.source there)
        ∙ ap (by_type count) (sym (kept_push (λ (walk : Traversal). walk.source == w.source) walks w (eq-eqb w.source w.source refl)))

    own : (v : ℕ) → v < n → map (walked v) (ways_at (set lists w.source new) v) ≡ by_type count (taken_from v (walks ++ w ∷ []))
    own v h = elim (cases_eq w.source v) [
      | inl same ↦ subst (λ (v : ℕ). map (walked v) (ways_at (set lists w.source new) v) ≡ by_type count (taken_from v (walks ++ w ∷ []))) same here
      | inr other ↦ ap (map (walked v)) (get_or-set_other lists w.source v new [] (λ e. other (sym e))) ∙ before.own v h
          ∙ ap (by_type count) (sym (dropped_push (λ (walk : Traversal). walk.source == v) walks w (differs w.source v other)))
    ]

pub listed_past : (n count : ℕ) (lists : List (List Neighbor)) (walks : List Traversal) (w : Traversal) → n ≤ w.source
    → AreListed n count lists walks → AreListed n count lists (walks ++ w ∷ [])
listed_past n count lists walks w past before = record {
  long = before.long;
  own = λ v h. before.own v h
      ∙ ap (by_type count) (sym (dropped_push (λ (walk : Traversal). walk.source == v) walks w (differs w.source v (λ e. absurd (omega (arith, e))))));
}

none_taken : (v n : ℕ) (walks : List Traversal) → n ≤ v → All (λ (w : Traversal). w.source < n) walks → taken_from v walks ≡ []
none_taken v n [] past all = refl
none_taken v n (w ∷ walks) past all =
    let low : w.source < n = all 0 no_walk (omega arith) in
    ap (λ b. cond b (w ∷ taken_from v walks) (taken_from v walks)) (differs w.source v (λ e. absurd (omega (arith, e))))
    ∙ none_taken v n walks past (λ i d h. all (suc i) d (omega arith))

-- no walk is taken from a later vertex
pub listed_wider : (n m count : ℕ) (lists wider : List (List Neighbor)) (walks : List Traversal) → AreListed n count lists walks
    → All (λ (w : Traversal). w.source < n) walks → wider ≡ lists ++ replicate m [] → AreListed (n + m) count wider walks
listed_wider n m count lists wider walks before all is = record {
  long = ap length is ∙ length-append lists (replicate m []) ∙ omega (arith, before.long, length-replicate {A = List Neighbor} m []);
  own = λ v h. ap (λ l. map (walked v) (ways_at l v)) is ∙ own v h;
}
  where
    own : (v : ℕ) → v < n + m → map (walked v) (ways_at (lists ++ replicate m []) v) ≡ by_type count (taken_from v walks)
    own v h = elim (lt_or_le v n) [
      | inl low ↦ ap (map (walked v)) (get_or_append_left lists (replicate m []) [] v (omega (arith, before.long))) ∙ before.own v low
      | inr past ↦ ap (map (walked v)) (get_or-append_right lists (replicate m []) n v [] before.long past ∙ get_or-replicate m (v - n) [] [] (omega arith))
          ∙ sym (ap (by_type count) (none_taken v n walks past all) ∙ by_type_none count)
    ]

-- one more empty list
pub widened_more : {V : Type 0} (f : V → List Neighbor) (old vs : List V) (i : ℕ) (v : V) → map f vs ≡ map f old ++ replicate i [] → f v ≡ []
    → map f (vs ++ v ∷ []) ≡ map f old ++ replicate (i + 1) []
widened_more f old vs i v all e =
    map-append f vs (v ∷ []) ∙ ap₂ (λ (xs : List (List Neighbor)) (x : List Neighbor). xs ++ x ∷ []) all e
    ∙ append_assoc (map f old) (replicate i []) ([] ∷ []) ∙ ap (λ l. map f old ++ l) (replicate-append-replicate i 1 [])

-- a list that was written back holds one more walk
pub put_more : {V : Type 0} (f : V → List Neighbor) (vs : List V) (old new : V) (n count : ℕ) (walks : List Traversal) (w : Traversal) → w.source < length vs
    → AreListed n count (map f vs) walks → old ≡ get_or vs w.source old
    → (map (walked w.source) (f old) ≡ by_type count (taken_from w.source walks)
    → map (walked w.source) (f new) ≡ by_type count (taken_from w.source walks ++ w ∷ []))
    → AreListed n count (map f (set vs w.source new)) (walks ++ w ∷ [])
put_more f vs old new n count walks w there are was more =
    subst (λ (l : List (List Neighbor)). AreListed n count l (walks ++ w ∷ [])) (sym (map-set f vs w.source new))
    (listed_more n count (map f vs) (f new) walks w (omega (arith, are.long, length-map vs f)) are
    (λ is. more (ap (map (walked w.source)) (ap f was ∙ sym (get_or-map f vs w.source old [] there)) ∙ is)))

pub put_past : {V : Type 0} (f : V → List Neighbor) (vs : List V) (n count : ℕ) (walks : List Traversal) (w : Traversal) → length vs ≤ w.source
    → AreListed n count (map f vs) walks → AreListed n count (map f vs) (walks ++ w ∷ [])
put_past f vs n count walks w past are = listed_past n count (map f vs) walks w (omega (arith, are.long, length-map vs f)) are
