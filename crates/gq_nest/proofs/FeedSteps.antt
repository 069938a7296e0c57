-- FeedSteps: one more input, at each variant.
use Rattle.std.proofs.Common.{if◌then◌else◌, ◌≡◌, Bool, true, false, ◌&&◌, length, List, [], ◌∷◌, ◌++◌, map, Result, Ok, Err, OnOk, refl, sym, ap, ◌∙◌, subst, subst₂}
use Rattle.std.specs.Ordering.{is_eq}
use Rattle.std.proofs.lemmas.List.{length-map}
use Rattle.std.specs.BTreeMap.{BTreeMap}
use Rattle.std.specs.BTreeSet.{BTreeSet}
use Rattle.gq_value.specs.declared.value.Value.{Value}
use Rattle.gq_value.specs.Val.{Val}
use Rattle.gq_value.specs.Views.{val}
use Rattle.gq_value.specs.declared.kind.Input.{Input}
use Rattle.gq_value.specs.AccumViews.{given, givens}
use Rattle.gq_value.specs.Order.{place}
use Rattle.gq_value.specs.Accums.{Base, Accum, SetAccum, BagAccum, ListAccum, MapAccum, HeapAccum, Given, Givens, One, Keyed, given_and, no_given}
use Rattle.gq_value.specs.Typed.{suits, is_of, row_is_of}
use Rattle.gq_accum_laws.specs.Gather.{put, sorted, distinct}
use Rattle.gq_accum_laws.specs.Holds.{Holds, row_cmp, heap_cmp}
use Rattle.gq_accum_laws.specs.Inputs.{own, first}
use Rattle.gq_accum_laws.specs.After.{fresh, after}
use Rattle.gq_accum_laws.specs.Fits.{HasRoom, IsProper}
use Rattle.gq_accum_laws.proofs.Shuffles.{past, into-append}
use Rattle.gq_accum_laws.proofs.GatherLaws.{put_commutes, gather_cut, gathered_into}
use Rattle.gq_accum_laws.proofs.TopLaws.{top_cut}
use Rattle.gq_accum_laws.proofs.RowLaws.{place_linear, row_linear, heap_linear}
use Rattle.gq_accum_laws.proofs.KindLaws.{both}
use Rattle.gq_accum_laws.proofs.ProperLaws.{after_none}
use Rattle.gq_accum.specs.declared.scalar.Scalar.{Scalar}
use Rattle.gq_accum.specs.declared.scalar.Scalar.TheVariants.{SumInt, SumUInt, MinInt, MinUInt, MaxInt, MaxUInt, Or, And, BitOr, BitAnd, Avg}
use Rattle.gq_accum.specs.Scalars.{kind_of, content}
use Rattle.gq_nest.specs.declared.content.Heap.{Heap}
use Rattle.gq_nest.specs.declared.content.Content.{Content, Content-F, out-Content}
use Rattle.gq_nest.specs.declared.content.Content.TheVariants as made
use Rattle.gq_nest.specs.Entries.{key_row, at_or, rows, under, Each}
use Rattle.gq_nest.specs.Forms.{view, HasForm, Deep, IsOf, Feeds, FeedsAt, TakesTuples}
use Rattle.gq_nest.proofs.EntryLemmas.{changed}
use Rattle.gq_nest.proofs.LevelLemmas.{opened-Scalar, opened-Set, opened-Bag, opened-List, opened-Heap, opened-Map, scalar_view, scalar_deep}

pub on_ok : {T E : Type 0} {P Q : Type 0} (r : Result T E) → OnOk r P → (P → Q) → OnOk r Q
on_ok (Ok t) h f = f h
on_ok (Err e) h f = tt

pub on_any : {T E : Type 0} {Q : Type 0} (r : Result T E) → Q → OnOk r Q
on_any (Ok t) h = h
on_any (Err e) h = tt

-- what is promised for the kinds that a level may be of, is for each kind that it is of
pub by_kind : {A : Type 0} (K : A → Accum) (l : Content-F Content) → ((k : Accum) → HasForm l k → (a : A) × (k ≡ K a)) → (Q : Accum → Type 0)
    → ((a : A) → Deep (K a) l → Q (K a)) → (k : Accum) → IsOf k l → Q k
by_kind K l known Q step k of_kind = let s = known k of_kind.0 in subst (λ (j : Accum). Deep j l → Q j) (sym s.1) (step s.0) of_kind.1

pub feeds_by : {A : Type 0} (K : A → Accum) (l l' : Content-F Content) (new : Content) (x : Given) → out-Content new ≡ l'
    → ((k : Accum) → HasForm l k → (a : A) × (k ≡ K a))
    → ((a : A) → Deep (K a) l → IsProper (K a) (view (K a) l) → HasRoom (K a) (view (K a) l) → suits (K a) x ≡ true → IsOf (K a) l' × (view (K a) l' ≡ after (K a) (view (K a) l) (x ∷ [])))
    → Feeds l x (out-Content new)
feeds_by K l l' new x o known step = subst (λ m. Feeds l x m) (sym o) (record {
  each = by_kind K l known (λ k. IsProper k (view k l) → HasRoom k (view k l) → suits k x ≡ true → IsOf k l' × (view k l' ≡ after k (view k l) (x ∷ []))) step;
})

pub feed_scalar : (s r : Scalar) (v : Value) → kind_of r ≡ kind_of s
    → (suits (kind_of s) (One (val v)) ≡ true → HasRoom (kind_of s) (content (kind_of s) s) → content (kind_of s) r ≡ after (kind_of s) (content (kind_of s) s) (One (val v) ∷ []))
    → Feeds (Content-F.Scalar s) (One (val v)) (out-Content (made.Scalar r))
feed_scalar s r v kept fed = feeds_by (λ (u : Unit {0}). kind_of s) (Content-F.Scalar s) (Content-F.Scalar r) (made.Scalar r) (One (val v)) (opened-Scalar r) (λ k e. (tt, e))
    (λ u deep proper room suit. (
      (sym kept, scalar_deep s (Content-F.Scalar r)),
      scalar_view s (Content-F.Scalar r) ∙ fed suit (subst (HasRoom (kind_of s)) (scalar_view s (Content-F.Scalar s)) room)
          ∙ ap (λ c. after (kind_of s) c (One (val v) ∷ [])) (sym (scalar_view s (Content-F.Scalar s))),
    ))

-- one more into what is in order
pub put_more : (vs : List Val) (v : Val) → put place false v (distinct place vs) ≡ distinct place (distinct place vs ++ v ∷ [])
put_more vs v = sym (ap (put place false v) (gathered_into place place_linear false vs []))
    ∙ sym (past (put place false) (put_commutes place place_linear false) v (distinct place vs) [])
    ∙ sym (into-append (put place false) (put_commutes place place_linear false) (distinct place vs) (v ∷ []) [])

pub rows_more : (vs : List (List Val)) (v : List Val) → put row_cmp false v (distinct row_cmp vs) ≡ distinct row_cmp (distinct row_cmp vs ++ v ∷ [])
rows_more vs v = sym (ap (put row_cmp false v) (gathered_into row_cmp row_linear false vs []))
    ∙ sym (past (put row_cmp false) (put_commutes row_cmp row_linear false) v (distinct row_cmp vs) [])
    ∙ sym (into-append (put row_cmp false) (put_commutes row_cmp row_linear false) (distinct row_cmp vs) (v ∷ []) [])

pub feed_set : (m m' : BTreeSet Value) (v : Val) → distinct place (map val m'.keys) ≡ put place false v (distinct place (map val m.keys)) → Feeds (Content-F.Set m) (One v) (out-Content (made.Set m'))
feed_set m m' v d = feeds_by SetAccum (Content-F.Set m) (Content-F.Set m') (made.Set m') (One v) (opened-Set m') (λ k h. h)
    (λ b deep proper room suit. (((b, refl), tt), d ∙ put_more (map val m.keys) v))

pub feed_bag : (xs ys : List Value) (v : Val) → map val ys ≡ map val xs ++ v ∷ [] → Feeds (Content-F.Bag xs) (One v) (out-Content (made.Bag ys))
feed_bag xs ys v d = feeds_by BagAccum (Content-F.Bag xs) (Content-F.Bag ys) (made.Bag ys) (One v) (opened-Bag ys) (λ k h. h)
    (λ b deep proper room suit. (((b, refl), tt), ap (sorted place) d ∙ sym (gather_cut place place_linear true (map val xs) (v ∷ []))))

pub feed_list : (xs ys : List Value) (v : Val) → map val ys ≡ map val xs ++ v ∷ [] → Feeds (Content-F.List xs) (One v) (out-Content (made.List ys))
feed_list xs ys v d = feeds_by ListAccum (Content-F.List xs) (Content-F.List ys) (made.List ys) (One v) (opened-List ys) (λ k h. h)
    (λ b deep proper room suit. (((b, refl), tt), d))

pub feed_heap : (h g : Heap) (v : Val) → TakesTuples h (v ∷ []) g → Feeds (Content-F.Heap h) (One v) (out-Content (made.Heap g))
feed_heap h g v d = feeds_by (λ b. HeapAccum b h.capacity h.order) (Content-F.Heap h) (Content-F.Heap g) (made.Heap g) (One v) (opened-Heap g) (λ k h. h)
    (λ b deep proper room suit. let t = d.each deep in (
      ((b, λ i. HeapAccum b (sym d.capacity i) (sym d.order i)), t.0),
      t.1 ∙ sym (top_cut (heap_cmp h.order) (heap_linear h.order) h.capacity (map val h.tuples) (v ∷ [])),
    ))

-- an input under a key
suits_map : (b : Base) (k : Accum) (v : Val) (y : Given) → suits (MapAccum b k) (Keyed (v ∷ []) (given_and y no_given)) ≡ true → suits k y ≡ true
suits_map b k v y h = (both (row_is_of (b ∷ []) (v ∷ [])) (suits k y) h).1

module _ (o : Content) (m m' : BTreeMap Value Content) (v : Val) (y : Given) (c : FeedsAt o m.entries (v ∷ []) y m'.entries) (b : Base) (k : Accum)
    (deep : Deep (MapAccum b k) (Content-F.Map o m)) (proper : IsProper (MapAccum b k) (view (MapAccum b k) (Content-F.Map o m)))
    (room : HasRoom (MapAccum b k) (view (MapAccum b k) (Content-F.Map o m))) (suit : suits (MapAccum b k) (Keyed (v ∷ []) (given_and y no_given)) ≡ true) where
  abbrev look : Content → Holds k
  look p = view k (out-Content p)

  abbrev at : List Val → List (Value × Content) → Holds k
  at q es = at_or look (fresh k) (under key_row q es)

  entered : Each key_row (λ p. IsOf k (out-Content p)) m'.entries × ((q : List Val) → at q m'.entries ≡ (if is_eq (row_cmp q (v ∷ [])) then after k (at q m.entries) (y ∷ []) else at q m.entries))
  entered = changed key_row look (fresh k) _ _ (λ p. IsOf k (out-Content p)) (λ d. after k d (y ∷ [])) m.entries m'.entries (v ∷ []) c deep.1
      (λ p h. let e = h.each k deep.0.0.0 in (e.0, e.1 ∙ deep.0.0.1))
      (λ was now s of_kind same. s.each k of_kind (subst (IsProper k) (sym same) (proper.2 (v ∷ []))) (subst (HasRoom k) (sym same) (room.0, room.1, room.2 (v ∷ []))) (suits_map b k v y suit))

  by : (q : List Val) (d : Bool) → (if d then after k (at q m.entries) (y ∷ []) else at q m.entries) ≡ after k (at q m.entries) (map first ((if d then given_and y no_given ∷ [] else []) ++ []))
  by q true = refl
  by q false = sym (after_none k (at q m.entries) (proper.2 q))

  entered_all : IsOf (MapAccum b k) (Content-F.Map o m') × (view (MapAccum b k) (Content-F.Map o m') ≡ after (MapAccum b k) (view (MapAccum b k) (Content-F.Map o m)) (Keyed (v ∷ []) (given_and y no_given) ∷ []))
  entered_all =
      let keys = c.puts.keys ∙ rows_more (rows key_row m.entries) (v ∷ []) in
      let there : (q : List Val) → at q m'.entries ≡ after k (at q m.entries) (map first (own q (Keyed (v ∷ []) (given_and y no_given) ∷ []))) = λ q. entered.1 q ∙ by q (is_eq (row_cmp q (v ∷ []))) in
      (((b, k, refl), (deep.0, entered.0)), λ i. (keys i, λ q. there q i))

abbrev pub map_of : Base × Accum → Accum
map_of p = MapAccum p.0 p.1

pub feed_map : (o : Content) (m m' : BTreeMap Value Content) (v : Val) (y : Given) → FeedsAt o m.entries (v ∷ []) y m'.entries → Feeds (Content-F.Map o m) (Keyed (v ∷ []) (given_and y no_given)) (out-Content (made.Map o m'))
feed_map o m m' v y c = feeds_by map_of (Content-F.Map o m) (Content-F.Map o m') (made.Map o m') (Keyed (v ∷ []) (given_and y no_given)) (opened-Map o m') (λ k h. ((h.0, h.1), h.2))
    (λ p. entered_all o m m' v y c p.0 p.1)

pub feed_keyed : (o : Content) (m m' : BTreeMap Value Content) (row : List Value) (xs : List Input) (key : Value) (x : Input) → row ≡ key ∷ [] → xs ≡ x ∷ []
    → FeedsAt o m.entries (val key ∷ []) (given x) m'.entries → Feeds (Content-F.Map o m) (Keyed (map val row) (givens (map given xs))) (out-Content (made.Map o m'))
feed_keyed o m m' row xs key x e f c = subst₂ (λ (r : List Value) (ys : List Input). Feeds (Content-F.Map o m) (Keyed (map val r) (givens (map given ys))) (out-Content (made.Map o m'))) (sym e) (sym f) (feed_map o m m' (val key) (given x) c)

-- ---- inputs of another form, which no kind of the content takes

not_keyed : (s : Scalar) (row : List Val) (xs : Givens) → suits (kind_of s) (Keyed row xs) ≡ true → ⊥
not_keyed (SumInt c) row xs e = cc e
not_keyed (SumUInt c) row xs e = cc e
not_keyed (MinInt c) row xs e = cc e
not_keyed (MinUInt c) row xs e = cc e
not_keyed (MaxInt c) row xs e = cc e
not_keyed (MaxUInt c) row xs e = cc e
not_keyed (Or c) row xs e = cc e
not_keyed (And c) row xs e = cc e
not_keyed (BitOr c) row xs e = cc e
not_keyed (BitAnd c) row xs e = cc e
not_keyed (Avg c) row xs e = cc e

-- whether a level takes keyed inputs
abbrev pub is_keyed : Content-F Content → Bool
is_keyed (Content-F.Map o m) = true
is_keyed (Content-F.Group os m) = true
is_keyed l = false

pub feed_unkeyed : (l : Content-F Content) (row : List Val) (xs : Givens) → is_keyed l ≡ false → Feeds l (Keyed row xs) l
feed_unkeyed l row xs flat = record { each = λ k mine proper room suit. absurd (no l flat k mine.0 suit) }
  where
    no : (l : Content-F Content) → is_keyed l ≡ false → (k : Accum) → HasForm l k → suits k (Keyed row xs) ≡ true → ⊥
    no (Content-F.Scalar s) flat k h e = not_keyed s row xs (subst (λ (j : Accum). suits j (Keyed row xs) ≡ true) h e)
    no (Content-F.Set m) flat k h e = let f = subst (λ (j : Accum). suits j (Keyed row xs) ≡ true) h.1 e in cc f
    no (Content-F.Bag items) flat k h e = let f = subst (λ (j : Accum). suits j (Keyed row xs) ≡ true) h.1 e in cc f
    no (Content-F.List items) flat k h e = let f = subst (λ (j : Accum). suits j (Keyed row xs) ≡ true) h.1 e in cc f
    no (Content-F.Heap m) flat k h e = let f = subst (λ (j : Accum). suits j (Keyed row xs) ≡ true) h.1 e in cc f
    no (Content-F.Map o m) flat k h e = cc flat
    no (Content-F.Group os m) flat k h e = cc flat
    no Content-F.Spoiled flat k h e = h

pub feed_unkeyed_one : (l : Content-F Content) (v : Val) → is_keyed l ≡ true → Feeds l (One v) l
feed_unkeyed_one l v keyed = record { each = λ k mine proper room suit. absurd (no l keyed k mine.0 suit) }
  where
    no : (l : Content-F Content) → is_keyed l ≡ true → (k : Accum) → HasForm l k → suits k (One v) ≡ true → ⊥
    no (Content-F.Scalar s) keyed k h e = cc keyed
    no (Content-F.Set m) keyed k h e = cc keyed
    no (Content-F.Bag items) keyed k h e = cc keyed
    no (Content-F.List items) keyed k h e = cc keyed
    no (Content-F.Heap m) keyed k h e = cc keyed
    no (Content-F.Map o m) keyed k h e = let f = subst (λ (j : Accum). suits j (One v) ≡ true) h.2 e in cc f
    no (Content-F.Group os m) keyed k h e = let f = subst (λ (j : Accum). suits j (One v) ≡ true) h.2 e in cc f
    no Content-F.Spoiled keyed k h e = h

-- a map takes one key with one input
pub feed_map_other : (o : Content) (m : BTreeMap Value Content) (row : List Val) (xs : List Given) → (length row ≡ 1 → length xs ≡ 1 → ⊥) → Feeds (Content-F.Map o m) (Keyed row (givens xs)) (Content-F.Map o m)
feed_map_other o m row xs n = record { each = λ k mine proper room suit. absurd (no row xs n mine.0.0 mine.0.1 (subst (λ (j : Accum). suits j (Keyed row (givens xs)) ≡ true) mine.0.2 suit)) }
  where
    no : (row : List Val) (xs : List Given) → (length row ≡ 1 → length xs ≡ 1 → ⊥) → (b : Base) (j : Accum) → suits (MapAccum b j) (Keyed row (givens xs)) ≡ true → ⊥
    no [] [] n b j e = cc e
    no [] (x ∷ []) n b j e = cc e
    no [] (x ∷ y ∷ xs) n b j e = cc e
    no (v ∷ []) [] n b j e = cc e
    no (v ∷ []) (x ∷ []) n b j e = n refl refl
    no (v ∷ []) (x ∷ y ∷ xs) n b j e = cc e
    no (v ∷ w ∷ row) [] n b j e = cc e
    no (v ∷ w ∷ row) (x ∷ []) n b j e = absurd (let f : (is_of b v && false) ≡ true = (both (is_of b v && false) (suits j x) e).0 in let g : false ≡ true = (both (is_of b v) false f).1 in cc g)
    no (v ∷ w ∷ row) (x ∷ y ∷ xs) n b j e = cc e

pub feed_other_key : (o : Content) (m : BTreeMap Value Content) (row seen : List Value) (xs : List Input) → seen ≡ row → (length seen ≡ 1 → ⊥) → Feeds (Content-F.Map o m) (Keyed (map val row) (givens (map given xs))) (out-Content (made.Map o m))
feed_other_key o m row seen xs e n = subst (λ (l : Content-F Content). Feeds (Content-F.Map o m) (Keyed (map val row) (givens (map given xs))) l) (sym (opened-Map o m)) (feed_map_other o m (map val row) (map given xs) (λ a b. n (ap length e ∙ sym (length-map row val) ∙ a)))

pub feed_other_inputs : (o : Content) (m : BTreeMap Value Content) (row : List Value) (xs seen : List Input) → seen ≡ xs → (length seen ≡ 1 → ⊥) → Feeds (Content-F.Map o m) (Keyed (map val row) (givens (map given xs))) (out-Content (made.Map o m))
feed_other_inputs o m row xs seen e n = subst (λ (l : Content-F Content). Feeds (Content-F.Map o m) (Keyed (map val row) (givens (map given xs))) l) (sym (opened-Map o m)) (feed_map_other o m (map val row) (map given xs) (λ a b. n (ap length e ∙ sym (length-map xs given) ∙ b)))
