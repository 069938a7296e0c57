-- TellSteps: what a content tells, at each variant.
use Rattle.std.proofs.Common.{◌≡◌, ℕ, Bool, ◌||◌, List, [], ◌∷◌, map, length, take, min, Result, Ok, Err, IfOk, Ordering, Less, Equal, Greater, refl, sym, ap, ap₂, ◌∙◌, subst, arith}
use Rattle.std.specs.Ordering.{is_eq, on, ordering_reverse}
use Rattle.std.specs.List.{list_any}
use Rattle.std.specs.List.Sorted.{IsStrictlySortedBy}
use Rattle.std.specs.Map.{keys_of as keys_in}
use Rattle.std.specs.BTreeMap.{BTreeMap}
use Rattle.std.specs.BTreeSet.{BTreeSet}
use Rattle.std.proofs.lemmas.List.{length-map, length-take}
use Rattle.gq_value.specs.declared.value.Value.{Value}
use Rattle.gq_value.specs.Val.{Val}
use Rattle.gq_value.specs.Views.{val}
use Rattle.gq_value.specs.Order.{place}
use Rattle.gq_value.specs.Accums.{Base, Accum, SetAccum, BagAccum, ListAccum, MapAccum, HeapAccum}
use Rattle.gq_accum_laws.specs.Gather.{sorted, distinct, among}
use Rattle.gq_accum_laws.specs.Holds.{Holds, row_cmp, heap_cmp}
use Rattle.gq_accum_laws.proofs.RowLaws.{place_linear, row_linear, heap_linear, among_distinct}
use Rattle.gq_accum.specs.declared.scalar.Scalar.{Scalar}
use Rattle.gq_accum.specs.Scalars.{kind_of, content}
use Rattle.gq_nest.specs.declared.content.Heap.{Heap}
use Rattle.gq_nest.specs.declared.content.Content.{Content, Content-F, out-Content}
use Rattle.gq_nest.specs.declared.content.Content.TheVariants as made
use Rattle.gq_nest.specs.Entries.{key_row, rows}
use Rattle.gq_nest.specs.Forms.{view, HasForm, IsOf}
use Rattle.gq_nest.specs.Shows.{Shows}
use Rattle.gq_nest.specs.Tells.{Tells}
use Rattle.gq_nest.proofs.EntryLemmas.{order_is}
use Rattle.gq_nest.proofs.FeedSteps.{by_kind, map_of}
use Rattle.gq_nest.proofs.LevelLemmas.{opened-Scalar, opened-Set, opened-Bag, opened-List, opened-Heap, opened-Map, opened-Spoiled, scalar_view}
use Rattle.gq_nest.proofs.SortSteps.{ascending_stays, among_sorted, length_sorted}

pub if_ok : {T E : Type 0} (r : Result T E) (P Q : T → Type 0) → IfOk r P → ((t : T) → P t → Q t) → IfOk r Q
if_ok (Ok t) P Q h f = f t h
if_ok (Err e) P Q h f = tt

-- what is so of a level as each kind that it is of, is so of what is shown
pub of_level : (Q : (k : Accum) → Holds k → Type 0) (c : Content) (l : Content-F Content) → out-Content c ≡ l → ((k : Accum) → IsOf k l → Q k (view k l)) → (k : Accum) (h : Holds k) → Shows k c h → Q k h
of_level Q c l o each k h s = subst (Q k) s.holds (subst (λ m. (j : Accum) → IsOf j m → Q j (view j m)) (sym o) each k s.of_kind)

-- an answer for the kinds that a level may be of, is one for each kind that it is of
module _ {A : Type 0} (c : Content) (a : A) (f : (k : Accum) → Holds k → A) where
  pub tells_by : {B : Type 0} (K : B → Accum) (l : Content-F Content) → out-Content c ≡ l → ((k : Accum) → HasForm l k → (b : B) × (k ≡ K b)) → ((b : B) → a ≡ f (K b) (view (K b) l)) → Tells c a f
  tells_by K l o known step = record { each = of_level (λ k h. a ≡ f k h) c l o (by_kind K l known (λ k. a ≡ f k (view k l)) (λ b deep. step b)) }

  pub tells_scalar : (s : Scalar) → c ≡ made.Scalar s → a ≡ f (kind_of s) (content (kind_of s) s) → Tells c a f
  tells_scalar s e step = tells_by (λ (u : Unit {0}). kind_of s) (Content-F.Scalar s) (ap out-Content e ∙ opened-Scalar s) (λ k h. (tt, h)) (λ u. step ∙ ap (f (kind_of s)) (sym (scalar_view s (Content-F.Scalar s))))

  pub tells_set : (m : BTreeSet Value) → c ≡ made.Set m → ((b : Base) → a ≡ f (SetAccum b) (distinct place (map val m.keys))) → Tells c a f
  tells_set m e step = tells_by SetAccum (Content-F.Set m) (ap out-Content e ∙ opened-Set m) (λ k h. h) step

  pub tells_bag : (xs : List Value) → c ≡ made.Bag xs → ((b : Base) → a ≡ f (BagAccum b) (sorted place (map val xs))) → Tells c a f
  tells_bag xs e step = tells_by BagAccum (Content-F.Bag xs) (ap out-Content e ∙ opened-Bag xs) (λ k h. h) step

  pub tells_list : (xs : List Value) → c ≡ made.List xs → ((b : Base) → a ≡ f (ListAccum b) (map val xs)) → Tells c a f
  tells_list xs e step = tells_by ListAccum (Content-F.List xs) (ap out-Content e ∙ opened-List xs) (λ k h. h) step

  pub tells_heap : (g : Heap) → c ≡ made.Heap g → ((b : Base) → a ≡ f (HeapAccum b g.capacity g.order) (take g.capacity (sorted (heap_cmp g.order) (map val g.tuples)))) → Tells c a f
  tells_heap g e step = tells_by (λ b. HeapAccum b g.capacity g.order) (Content-F.Heap g) (ap out-Content e ∙ opened-Heap g) (λ k h. h) step

  pub tells_map : (o : Content) (m : BTreeMap Value Content) → c ≡ made.Map o m → ((b : Base) (k : Accum) → a ≡ f (MapAccum b k) (view (MapAccum b k) (Content-F.Map o m))) → Tells c a f
  tells_map o m e step = tells_by map_of (Content-F.Map o m) (ap out-Content e ∙ opened-Map o m) (λ k h. ((h.0, h.1), h.2)) (λ p. step p.0 p.1)

  pub tells_spoiled : c ≡ made.Spoiled → Tells c a f
  tells_spoiled e = record { each = of_level (λ k h. a ≡ f k h) c Content-F.Spoiled (ap out-Content e ∙ opened-Spoiled) (λ k h. absurd h.0) }

-- ---- sizes

pub set_size : (m : BTreeSet Value) (n : ℕ) → n ≡ length m.keys → IsStrictlySortedBy (on val place) m.keys → n ≡ length (distinct place (map val m.keys))
set_size m n e up = e ∙ sym (length-map m.keys val) ∙ ap length (sym (ascending_stays place place_linear val m.keys up))

pub bag_size : (xs : List Value) (n : ℕ) → n ≡ length xs → n ≡ length (sorted place (map val xs))
bag_size xs n e = e ∙ sym (length-map xs val) ∙ sym (length_sorted place place_linear (map val xs))

pub list_size : (xs : List Value) (n : ℕ) → n ≡ length xs → n ≡ length (map val xs)
list_size xs n e = e ∙ sym (length-map xs val)

pub heap_size : (g : Heap) (n m : ℕ) → n ≡ length g.tuples → m ≡ g.capacity → min n m ≡ length (take g.capacity (sorted (heap_cmp g.order) (map val g.tuples)))
heap_size g n m e f =
    let s = length_sorted (heap_cmp g.order) (heap_linear g.order) (map val g.tuples) in
    let l = length-map g.tuples val in
    let t = length-take g.capacity (sorted (heap_cmp g.order) (map val g.tuples)) in
    omega (arith, s, l, t, e, f)

keys_are_rows : (es : List (Value × Content)) → map key_row (keys_in es) ≡ rows key_row es
keys_are_rows [] = refl
keys_are_rows (e ∷ es) = ap (λ l. key_row e.0 ∷ l) (keys_are_rows es)

-- the keys of an ordered map are its key rows, each once
pub rows_stay : (es : List (Value × Content)) → IsStrictlySortedBy (on val place) (keys_in es) → distinct row_cmp (rows key_row es) ≡ rows key_row es
rows_stay es up = ap (distinct row_cmp) (sym (keys_are_rows es)) ∙ ascending_stays row_cmp row_linear key_row (keys_in es) (subst (λ c. IsStrictlySortedBy c (keys_in es)) order_is up) ∙ keys_are_rows es

pub map_size : (es : List (Value × Content)) (n : ℕ) → n ≡ length es → IsStrictlySortedBy (on val place) (keys_in es) → n ≡ length (distinct row_cmp (rows key_row es))
map_size es n e up = e ∙ sym (length-map es (λ d. key_row d.0)) ∙ ap length (sym (rows_stay es up))

-- ---- values

any_among : (v : Val) (xs : List Value) → list_any (λ k. is_eq (place v (val k))) xs ≡ among place v (map val xs)
any_among v [] = refl
any_among v (x ∷ xs) = ap (λ b. is_eq (place v (val x)) || b) (any_among v xs)

pub set_has : (m : BTreeSet Value) (v : Val) (b : Bool) → b ≡ list_any (λ k. is_eq (place v (val k))) m.keys → b ≡ among place v (distinct place (map val m.keys))
set_has m v b e = e ∙ any_among v m.keys ∙ sym (among_distinct place place_linear v (map val m.keys))

same_back : (a b : Val) → is_eq (place a b) ≡ is_eq (place b a)
same_back a b = ap is_eq (place_linear.total.antisymm a b) ∙ turned (place b a)
  where
    turned : (o : Ordering) → is_eq (ordering_reverse o) ≡ is_eq o
    turned Less = refl
    turned Equal = refl
    turned Greater = refl

any_back : (v : Val) (xs : List Value) → list_any (λ x. is_eq (place (val x) v)) xs ≡ among place v (map val xs)
any_back v [] = refl
any_back v (x ∷ xs) = ap₂ ◌||◌ (same_back (val x) v) (any_back v xs)

pub list_has : (xs ys : List Value) (v : Val) (b : Bool) → ys ≡ xs → b ≡ list_any (λ x. is_eq (place (val x) v)) ys → b ≡ among place v (map val xs)
list_has xs ys v b s e = e ∙ any_back v ys ∙ ap (λ l. among place v (map val l)) s

pub bag_has : (xs ys : List Value) (v : Val) (b : Bool) → ys ≡ xs → b ≡ list_any (λ x. is_eq (place (val x) v)) ys → b ≡ among place v (sorted place (map val xs))
bag_has xs ys v b s e = list_has xs ys v b s e ∙ sym (among_sorted place place_linear v (map val xs))
