-- MergeSteps: one content merged into another, at each variant.
use Rattle.std.proofs.Common.{if◌then◌else◌, ◌≡◌, Bool, true, false, List, [], ◌∷◌, ◌++◌, map, take, Option, Some, None, refl, sym, ap, ap₂, ◌∙◌, subst}
use Rattle.std.specs.Ordering.{is_eq}
use Rattle.std.specs.BTreeMap.{BTreeMap}
use Rattle.std.specs.BTreeSet.{BTreeSet}
use Rattle.gq_value.specs.declared.value.Value.{Value}
use Rattle.gq_value.specs.Val.{Val}
use Rattle.gq_value.specs.Views.{val}
use Rattle.gq_value.specs.Order.{place}
use Rattle.gq_value.specs.Accums.{Accum, SetAccum, BagAccum, ListAccum, HeapAccum}
use Rattle.gq_accum_laws.specs.Gather.{into, put, sorted, distinct}
use Rattle.gq_accum_laws.specs.Holds.{row_cmp, heap_cmp}
use Rattle.gq_accum_laws.specs.After.{fresh, merged}
use Rattle.gq_accum_laws.specs.Fits.{HasRoom, IsProper}
use Rattle.gq_accum_laws.proofs.Shuffles.{past, swap_into, into-append}
use Rattle.gq_accum_laws.proofs.GatherLaws.{put_commutes, gather_cut, gather_part, gathered_into}
use Rattle.gq_accum_laws.proofs.TopLaws.{top_cut, top_part}
use Rattle.gq_accum_laws.proofs.RowLaws.{place_linear, row_linear, heap_linear}
use Rattle.gq_accum_laws.proofs.ProperLaws.{merged_neutral}
use Rattle.gq_accum.specs.declared.scalar.Scalar.{Scalar}
use Rattle.gq_accum.specs.Scalars.{kind_of, content}
use Rattle.gq_nest.specs.declared.content.Heap.{Heap}
use Rattle.gq_nest.specs.declared.content.Content.{Content, Content-F, out-Content, roll-Content, roll-out-Content}
use Rattle.gq_nest.specs.declared.content.Content.TheVariants as made
use Rattle.gq_nest.specs.Entries.{key_row, at_or, rows, under, Each}
use Rattle.gq_nest.specs.Forms.{view, HasForm, Deep, IsOf, Merges, MergesAt, AreReady, Unites, at_row, TakesTuples, entries_in}
use Rattle.gq_nest.proofs.EntryLemmas.{same_row, changed}
use Rattle.gq_nest.proofs.LevelLemmas.{opened-Scalar, opened-Set, opened-Bag, opened-List, opened-Heap, opened-Map, scalar_view, scalar_deep}
use Rattle.gq_nest.proofs.FeedSteps.{by_kind, map_of}
use Rattle.gq_nest.proofs.CopySteps.{Rising, first_under, later_under, other_under}

pub merges_by : {A : Type 0} (K : A → Accum) (l o l' : Content-F Content) (new : Content) → out-Content new ≡ l'
    → ((k : Accum) → HasForm l k → (a : A) × (k ≡ K a))
    → ((a : A) → Deep (K a) l → IsOf (K a) o → IsProper (K a) (view (K a) l) → HasRoom (K a) (view (K a) l) → HasRoom (K a) (view (K a) o) → IsOf (K a) l' × (view (K a) l' ≡ merged (K a) (view (K a) l) (view (K a) o)))
    → Merges l o (out-Content new)
merges_by K l o l' new e known step = subst (λ m. Merges l o m) (sym e) (record {
  each = by_kind K l known (λ k. IsOf k o → IsProper k (view k l) → HasRoom k (view k l) → HasRoom k (view k o) → IsOf k l' × (view k l' ≡ merged k (view k l) (view k o))) step;
})

pub merge_scalar : (s d r : Scalar) → kind_of r ≡ kind_of s
    → (kind_of d ≡ kind_of s → HasRoom (kind_of s) (content (kind_of s) s) → HasRoom (kind_of s) (content (kind_of s) d) → content (kind_of s) r ≡ merged (kind_of s) (content (kind_of s) s) (content (kind_of s) d))
    → Merges (Content-F.Scalar s) (Content-F.Scalar d) (out-Content (made.Scalar r))
merge_scalar s d r kept joined = merges_by (λ (u : Unit {0}). kind_of s) (Content-F.Scalar s) (Content-F.Scalar d) (Content-F.Scalar r) (made.Scalar r) (opened-Scalar r) (λ k e. (tt, e))
    (λ u deep other proper room also. (
      (sym kept, scalar_deep s (Content-F.Scalar r)),
      scalar_view s (Content-F.Scalar r)
          ∙ joined (sym other.0) (subst (HasRoom (kind_of s)) (scalar_view s (Content-F.Scalar s)) room) (subst (HasRoom (kind_of s)) (scalar_view s (Content-F.Scalar d)) also)
          ∙ ap₂ (merged (kind_of s)) (sym (scalar_view s (Content-F.Scalar s))) (sym (scalar_view s (Content-F.Scalar d))),
    ))

-- lists gathered one by one into what is in order
keys_both : (xs ys : List Val) → into (put place false) xs (distinct place ys) ≡ distinct place (distinct place ys ++ distinct place xs)
keys_both xs ys = swap_into (put place false) (put_commutes place place_linear false) xs ys []
    ∙ sym (gathered_into place place_linear false ys (distinct place xs))
    ∙ sym (into-append (put place false) (put_commutes place place_linear false) (distinct place ys) xs [])
    ∙ sym (gather_part place place_linear false (distinct place ys) xs)

pub rows_both : (xs ys : List (List Val)) → into (put row_cmp false) xs (distinct row_cmp ys) ≡ distinct row_cmp (distinct row_cmp ys ++ distinct row_cmp xs)
rows_both xs ys = swap_into (put row_cmp false) (put_commutes row_cmp row_linear false) xs ys []
    ∙ sym (gathered_into row_cmp row_linear false ys (distinct row_cmp xs))
    ∙ sym (into-append (put row_cmp false) (put_commutes row_cmp row_linear false) (distinct row_cmp ys) xs [])
    ∙ sym (gather_part row_cmp row_linear false (distinct row_cmp ys) xs)

pub merge_set : (m n m' : BTreeSet Value) → distinct place (map val m'.keys) ≡ into (put place false) (map val n.keys) (distinct place (map val m.keys)) → Merges (Content-F.Set m) (Content-F.Set n) (out-Content (made.Set m'))
merge_set m n m' d = merges_by SetAccum (Content-F.Set m) (Content-F.Set n) (Content-F.Set m') (made.Set m') (opened-Set m') (λ k h. h)
    (λ b deep other proper room also. (((b, refl), tt), d ∙ keys_both (map val n.keys) (map val m.keys)))

pub merge_bag : (xs zs ys : List Value) → map val ys ≡ map val xs ++ map val zs → Merges (Content-F.Bag xs) (Content-F.Bag zs) (out-Content (made.Bag ys))
merge_bag xs zs ys d = merges_by BagAccum (Content-F.Bag xs) (Content-F.Bag zs) (Content-F.Bag ys) (made.Bag ys) (opened-Bag ys) (λ k h. h)
    (λ b deep other proper room also. (((b, refl), tt), ap (sorted place) d ∙ sym (gather_cut place place_linear true (map val xs) (map val zs)) ∙ sym (gather_part place place_linear true (sorted place (map val xs)) (map val zs))))

pub merge_list : (xs zs ys : List Value) → map val ys ≡ map val xs ++ map val zs → Merges (Content-F.List xs) (Content-F.List zs) (out-Content (made.List ys))
merge_list xs zs ys d = merges_by ListAccum (Content-F.List xs) (Content-F.List zs) (Content-F.List ys) (made.List ys) (opened-List ys) (λ k h. h)
    (λ b deep other proper room also. (((b, refl), tt), d))

pub merge_heap : (h o g : Heap) → TakesTuples h (map val o.tuples) g → Merges (Content-F.Heap h) (Content-F.Heap o) (out-Content (made.Heap g))
merge_heap h o g d = merges_by (λ b. HeapAccum b h.capacity h.order) (Content-F.Heap h) (Content-F.Heap o) (Content-F.Heap g) (made.Heap g) (opened-Heap g) (λ k h. h)
    (λ b deep other proper room also. let t = d.each deep in (
      ((b, λ i. HeapAccum b (sym d.capacity i) (sym d.order i)), t.0),
      t.1 ∙ sym (top_cut (heap_cmp h.order) (heap_linear h.order) h.capacity (map val h.tuples) (map val o.tuples))
          ∙ sym (top_part (heap_cmp h.order) (heap_linear h.order) h.capacity (take h.capacity (sorted (heap_cmp h.order) (map val h.tuples))) (map val o.tuples)),
    ))

pub merge_map : (o : Content) (m m' : BTreeMap Value Content) (l : Content-F Content) → Unites o m.entries (entries_in l) m'.entries → Merges (Content-F.Map o m) l (out-Content (made.Map o m'))
merge_map o m m' l u = merges_by map_of (Content-F.Map o m) l (Content-F.Map o m') (made.Map o m') (opened-Map o m') (λ k h. ((h.0, h.1), h.2))
    (λ a deep other proper room also.
    let e = u.each a.1 (record { first = deep.0.0.0; opens = deep.0.0.1; mine = deep.1; theirs = other.1.1; proper = proper.2; room = λ q. (room.0, room.1, room.2 q); also = λ q. (also.0, also.1, also.2 q) }) in
    let keys = u.keys in
    (((a.0, a.1, refl), (deep.0, e.0)), λ i. (keys i, λ q. e.1 q i)))

-- midway: what is left of the entries is still to be merged
pub record Midway (k : Accum) (old all now left : List (Value × Content)) : Type 0 where
  pub kept : Each key_row (λ c. IsOf k (out-Content c)) now
  pub waits : (q : List Val) (p : Content) → under key_row q left ≡ Some p → (at_row k q now ≡ at_row k q old) × (under key_row q all ≡ Some p)
  pub finished : (q : List Val) → under key_row q left ≡ None → at_row k q now ≡ at_or (λ p. merged k (at_row k q old) (view k (out-Content p))) (at_row k q old) (under key_row q all)

pub record Uniting (opening : Content) (old all now left : List (Value × Content)) : Type 0 where
  pub rises : Rising key_row left
  pub keys : into (put row_cmp false) (rows key_row left) (distinct row_cmp (rows key_row now)) ≡ into (put row_cmp false) (rows key_row all) (distinct row_cmp (rows key_row old))
  pub each : (k : Accum) → AreReady k opening old all → Midway k old all now left

pub uniting_first : (opening : Content) (old all left : List (Value × Content)) → left ≡ all → Rising key_row all → Uniting opening old all old left
uniting_first opening old all left e r = subst (Uniting opening old all old) (sym e) (record {
  rises = r;
  keys = refl;
  each = λ k ready. record { kept = ready.mine; waits = λ q p h. (refl, h); finished = λ q h. ap (at_or (λ p. merged k (at_row k q old) (view k (out-Content p))) (at_row k q old)) (sym h) };
})

-- one entry more is merged
module _ (k : Accum) (opening : Content) (old all now now' rest : List (Value × Content)) (key : Value) (part : Content) (j : MergesAt opening now (val key ∷ []) part now')
    (rises : Rising key_row ((key, part) ∷ rest)) (ready : AreReady k opening old all) (u : Midway k old all now ((key, part) ∷ rest)) where
  here : under key_row (val key ∷ []) ((key, part) ∷ rest) ≡ Some part
  here = first_under key_row key part rest

  there : (at_row k (val key ∷ []) now ≡ at_row k (val key ∷ []) old) × (under key_row (val key ∷ []) all ≡ Some part)
  there = u.waits (val key ∷ []) part here

  also : HasRoom k (view k (out-Content part))
  also = subst (λ o. HasRoom k (at_or (λ c. view k (out-Content c)) (fresh k) o)) there.1 (ready.also (val key ∷ []))

  joined : Each key_row (λ c. IsOf k (out-Content c)) now' × ((q : List Val) → at_row k q now' ≡ (if is_eq (row_cmp q (val key ∷ [])) then merged k (at_row k q now) (view k (out-Content part)) else at_row k q now))
  joined = changed key_row (λ c. view k (out-Content c)) (fresh k) _ _ (λ c. IsOf k (out-Content c)) (λ d. merged k d (view k (out-Content part))) now now' (val key ∷ []) j u.kept
      (λ p h. let e = h.each k ready.first in (e.0, e.1 ∙ ready.opens))
      (λ was new s of_kind same. s.each k of_kind (ready.theirs (val key ∷ []) part there.1) (subst (IsProper k) (sym (same ∙ there.0)) (ready.proper (val key ∷ []))) (subst (HasRoom k) (sym (same ∙ there.0)) (ready.room (val key ∷ []))) also)

  passes : (q : List Val) → is_eq (row_cmp q (val key ∷ [])) ≡ false → at_row k q now' ≡ at_row k q now
  passes q s = joined.1 q ∙ ap (λ b. if b then merged k (at_row k q now) (view k (out-Content part)) else at_row k q now) s

  done : (q : List Val) → under key_row q rest ≡ None → (b : Bool) → is_eq (row_cmp q (val key ∷ [])) ≡ b → at_row k q now' ≡ at_or (λ p. merged k (at_row k q old) (view k (out-Content p))) (at_row k q old) (under key_row q all)
  done q none true s =
      let a : q ≡ val key ∷ [] = same_row q (val key ∷ []) s in
      joined.1 q ∙ ap (λ b. if b then merged k (at_row k q now) (view k (out-Content part)) else at_row k q now) s
      ∙ ap (λ v. merged k (at_row k v now) (view k (out-Content part))) a ∙ ap (λ d. merged k d (view k (out-Content part))) there.0
      ∙ ap (at_or (λ p. merged k (at_row k (val key ∷ []) old) (view k (out-Content p))) (at_row k (val key ∷ []) old)) (sym there.1)
      ∙ ap (λ v. at_or (λ p. merged k (at_row k v old) (view k (out-Content p))) (at_row k v old) (under key_row v all)) (sym a)
  done q none false s = passes q s ∙ u.finished q (other_under key_row key part rest q none s)

  midway_more : Midway k old all now' rest
  midway_more = record {
    kept = joined.0;
    waits = λ q p h. let l = later_under key_row key part p rest q rises.0 h in let w = u.waits q p l.1 in (passes q l.0 ∙ w.0, w.1);
    finished = λ q h. done q h (is_eq (row_cmp q (val key ∷ []))) refl;
  }

pub uniting_more : (opening : Content) (old all now now' left rest : List (Value × Content)) (key : Value) (part : Content) → left ≡ (key, part) ∷ rest → MergesAt opening now (val key ∷ []) part now' → Uniting opening old all now left → Uniting opening old all now' rest
uniting_more opening old all now now' left rest key part e j before = next (subst (Uniting opening old all now) e before)
  where
    next : Uniting opening old all now ((key, part) ∷ rest) → Uniting opening old all now' rest
    next u = record {
      rises = u.rises.1;
      keys = ap (into (put row_cmp false) (rows key_row rest)) j.puts.keys ∙ past (put row_cmp false) (put_commutes row_cmp row_linear false) (val key ∷ []) (rows key_row rest) (distinct row_cmp (rows key_row now)) ∙ u.keys;
      each = λ k ready. midway_more k opening old all now now' rest key part j u.rises ready (u.each k ready);
    }

pub uniting_all : (opening : Content) (old all now left : List (Value × Content)) → left ≡ [] → Uniting opening old all now left → Unites opening old all now
uniting_all opening old all now left e before = close (subst (Uniting opening old all now) e before)
  where
    by : (k : Accum) → AreReady k opening old all → (q : List Val) (o : Option Content) → at_or (λ p. merged k (at_row k q old) (view k (out-Content p))) (at_row k q old) o ≡ merged k (at_row k q old) (at_or (λ c. view k (out-Content c)) (fresh k) o)
    by k ready q None = sym (merged_neutral k (at_row k q old) (ready.proper q))
    by k ready q (Some p) = refl

    close : Uniting opening old all now [] → Unites opening old all now
    close u = record {
      keys = u.keys ∙ rows_both (rows key_row all) (rows key_row old);
      each = λ k ready. let m = u.each k ready in (m.kept, λ q. m.finished q refl ∙ by k ready q (under key_row q all));
    }

-- ---- contents of other forms

-- a map to which no entries come
pub unites_none : (opening : Content) (old all : List (Value × Content)) → all ≡ [] → Unites opening old all old
unites_none opening old all e = uniting_all opening old all old all e (uniting_first opening old all all refl (subst (Rising key_row) (sym e) tt))

-- what isn't a map has no entries
pub no_entries : (c : Content) → ((o : Content) (m : BTreeMap Value Content) → c ≡ made.Map o m → ⊥) → entries_in (out-Content c) ≡ []
no_entries c isnt = by (out-Content c) refl
  where
    by : (l : Content-F Content) → out-Content c ≡ l → entries_in l ≡ []
    by (Content-F.Scalar s) e = refl
    by (Content-F.Set m) e = refl
    by (Content-F.Bag items) e = refl
    by (Content-F.List items) e = refl
    by (Content-F.Heap h) e = refl
    by (Content-F.Map o m) e = absurd (isnt o m (sym (roll-out-Content c) ∙ ap roll-Content e ∙ made.rolls-Map o m))
    by (Content-F.Group os m) e = refl
    by Content-F.Spoiled e = refl
