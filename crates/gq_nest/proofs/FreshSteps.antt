-- FreshSteps: what each arm of `fresh` gives.
use Rattle.std.proofs.Common.{◌≡◌, zero, suc, Bool, ℕ, List, [], map, take, None, refl, sym, ap, ◌∙◌, subst, arith}
use Rattle.std.specs.BTreeMap.{BTreeMap}
use Rattle.std.specs.BTreeSet.{BTreeSet}
use Rattle.gq_value.specs.declared.value.Value.{Value}
use Rattle.gq_value.specs.declared.kind.Kind.{Kind}
use Rattle.gq_value.specs.declared.kind.BaseType.{BaseType}
use Rattle.gq_value.specs.declared.kind.HeapShape.{HeapShape}
use Rattle.gq_value.specs.declared.kind.Kind.TheVariants as kind
use Rattle.gq_value.specs.Views.{val}
use Rattle.gq_value.specs.Order.{place}
use Rattle.gq_value.specs.Accums.{Accum, SetAccum, BagAccum, ListAccum, MapAccum, HeapAccum, TUPLE}
use Rattle.gq_value.specs.AccumViews.{bases, base_of, accum_of}
use Rattle.gq_value.proofs.AccumLemmas.{accum_of-Set, accum_of-Bag, accum_of-List, accum_of-Map, accum_of-Heap}
use Rattle.gq_accum_laws.specs.Gather.{sorted, distinct}
use Rattle.gq_accum_laws.specs.Holds.{row_cmp, heap_cmp}
use Rattle.gq_accum_laws.specs.After.{fresh}
use Rattle.gq_accum_laws.proofs.ProperLaws.{proper_fresh}
use Rattle.gq_accum.specs.declared.scalar.Scalar.{Scalar}
use Rattle.gq_accum.specs.Scalars.{kind_of, content, IsFresh}
use Rattle.gq_nest.specs.declared.content.Heap.{Heap}
use Rattle.gq_nest.specs.declared.content.Content.{Content, Content-F, out-Content}
use Rattle.gq_nest.specs.declared.content.Content.TheVariants as made
use Rattle.gq_nest.specs.Heaps.{AreKept}
use Rattle.gq_nest.specs.Entries.{key_row, at_or, rows, under}
use Rattle.gq_nest.specs.Forms.{view, IsOf}
use Rattle.gq_nest.specs.Shows.{Shows}
use Rattle.gq_nest.proofs.LevelLemmas.{opened-Scalar, opened-Set, opened-Bag, opened-List, opened-Heap, opened-Map, scalar_view, scalar_deep}

-- from a level of a known kind
pub shows_at : (k k0 : Accum) (c : Content) (l : Content-F Content) → k ≡ k0 → out-Content c ≡ l → IsOf k0 l → view k0 l ≡ fresh k0 → Shows k c (fresh k)
shows_at k k0 c l e o of_kind opening = subst (λ (a : Accum). Shows a c (fresh a)) (sym e) (record {
  of_kind = subst (IsOf k0) (sym o) of_kind;
  holds = ap (view k0) o ∙ opening;
  proper = proper_fresh k0;
})

pub fresh_scalar : (k : Kind) (s : Scalar) → IsFresh (accum_of k) s → Shows (accum_of k) (made.Scalar s) (fresh (accum_of k))
fresh_scalar k s h = shows_at (accum_of k) (kind_of s) (made.Scalar s) (Content-F.Scalar s) (sym h.kept) (opened-Scalar s)
    (refl, scalar_deep s (Content-F.Scalar s))
    (scalar_view s (Content-F.Scalar s) ∙ subst (λ (a : Accum). content a s ≡ fresh a) (sym h.kept) h.opening)

pub fresh_set : (k : Kind) (t : BaseType) (m : BTreeSet Value) → k ≡ kind.Set t → m.keys ≡ [] → Shows (accum_of k) (made.Set m) (fresh (accum_of k))
fresh_set k t m e empty = shows_at (accum_of k) (SetAccum (base_of t)) (made.Set m) (Content-F.Set m) (ap accum_of e ∙ accum_of-Set t) (opened-Set m)
    ((base_of t, refl), tt) (ap (λ ks. distinct place (map val ks)) empty)

pub fresh_bag : (k : Kind) (t : BaseType) (xs : List Value) → k ≡ kind.Bag t → xs ≡ [] → Shows (accum_of k) (made.Bag xs) (fresh (accum_of k))
fresh_bag k t xs e empty = shows_at (accum_of k) (BagAccum (base_of t)) (made.Bag xs) (Content-F.Bag xs) (ap accum_of e ∙ accum_of-Bag t) (opened-Bag xs)
    ((base_of t, refl), tt) (ap (λ ks. sorted place (map val ks)) empty)

pub fresh_list : (k : Kind) (t : BaseType) (xs : List Value) → k ≡ kind.List t → xs ≡ [] → Shows (accum_of k) (made.List xs) (fresh (accum_of k))
fresh_list k t xs e empty = shows_at (accum_of k) (ListAccum (base_of t)) (made.List xs) (Content-F.List xs) (ap accum_of e ∙ accum_of-List t) (opened-List xs)
    ((base_of t, refl), tt) (ap (λ ks. map val ks) empty)

take_none : (n : ℕ) (by : List (ℕ × Bool)) → take n (sorted (heap_cmp by) (map val [])) ≡ []
take_none zero by = refl
take_none (suc n) by = refl

pub fresh_heap : (k : Kind) (s : HeapShape) (h : Heap) → k ≡ kind.Heap s → h.capacity ≡ s.capacity → h.order ≡ s.order → h.tuples ≡ [] → Shows (accum_of k) (made.Heap h) (fresh (accum_of k))
fresh_heap k s h e cap ord empty =
    let b = TUPLE s.tuple (bases (map base_of s.fields)) in
    shows_at (accum_of k) (HeapAccum b s.capacity s.order) (made.Heap h) (Content-F.Heap h) (ap accum_of e ∙ accum_of-Heap s) (opened-Heap h) (
      (b, λ i. HeapAccum b (sym cap i) (sym ord i)),
      subst (λ ts. AreKept s.capacity s.order (map val ts)) (sym empty) (record {
        few = omega arith;
        heaped = record { each = λ p c a l. absurd (omega (arith, l)) };
      }),
    )
    (ap (λ ks. take s.capacity (sorted (heap_cmp s.order) (map val ks))) empty ∙ take_none s.capacity s.order)

pub fresh_map : (k : Kind) (t : BaseType) (j : Kind) (o : Content) (m : BTreeMap Value Content) → k ≡ kind.Map t j → Shows (accum_of j) o (fresh (accum_of j)) → m.entries ≡ [] → Shows (accum_of k) (made.Map o m) (fresh (accum_of k))
fresh_map k t j o m e first empty = shows_at (accum_of k) (MapAccum (base_of t) (accum_of j)) (made.Map o m) (Content-F.Map o m) (ap accum_of e ∙ accum_of-Map t j) (opened-Map o m)
    ((base_of t, accum_of j, refl), (((first.of_kind, first.holds), tt), λ q c h. absurd (let n : None ≡ under key_row q m.entries = sym (ap (under key_row q) empty) in let w = n ∙ h in cc)))
    (ap (λ es. (distinct row_cmp (rows key_row es), λ q. at_or (λ c. view (accum_of j) (out-Content c)) (fresh (accum_of j)) (under key_row q es))) empty)
