-- CopySteps: contents once more, and the entries of a map one by one.
use Rattle.std.proofs.Common.{if◌then◌else◌, ◌≡◌, Bool, true, false, cond, List, [], ◌∷◌, map, Option, Some, None, Less, refl, sym, ap, ◌∙◌, subst}
use Rattle.std.specs.Ordering.{is_eq, on}
use Rattle.std.specs.Map.{keys_of}
use Rattle.std.specs.List.Sorted.{IsStrictlySortedBy}
use Rattle.std.specs.List.{AllByRecursion}
use Rattle.std.specs.BTreeMap.{BTreeMap}
use Rattle.std.specs.BTreeSet.{BTreeSet}
use Rattle.gq_value.specs.declared.value.Value.{Value}
use Rattle.gq_value.specs.Val.{Val}
use Rattle.gq_value.specs.Views.{val}
use Rattle.gq_value.specs.Order.{place}
use Rattle.gq_value.specs.Accums.{Accum, SetAccum}
use Rattle.gq_accum_laws.specs.Gather.{into, put, distinct}
use Rattle.gq_accum_laws.specs.Holds.{row_cmp}
use Rattle.gq_accum_laws.specs.After.{fresh}
use Rattle.gq_accum_laws.proofs.Shuffles.{past}
use Rattle.gq_accum_laws.proofs.GatherLaws.{put_commutes, itself}
use Rattle.gq_accum_laws.proofs.RowLaws.{row_linear}
use Rattle.gq_nest.specs.declared.content.Content.{Content, Content-F, out-Content}
use Rattle.gq_nest.specs.declared.content.Content.TheVariants as made
use Rattle.gq_nest.specs.Entries.{key_row, every, at_or, rows, under, Each, Puts, CopiesEach}
use Rattle.gq_nest.specs.Forms.{view, HasForm, Deep, IsOf, Copies, CopiesEntries}
use Rattle.gq_nest.proofs.EntryLemmas.{some_inj, same_row, order_is}
use Rattle.gq_nest.proofs.LevelLemmas.{opened-Set, opened-Map}
use Rattle.gq_nest.proofs.FeedSteps.{by_kind, map_of}

module _ {K X : Type 0} (row : K → List Val) where
  -- a key stands once
  abbrev pub Rising : List (K × X) → Type 0
  Rising [] = Unit {0}
  Rising (e ∷ es) = every (λ d. row_cmp (row e.0) (row d.0) ≡ Less) es × Rising es

  all_less : (v : List Val) (es : List (K × X)) → AllByRecursion (λ y. row_cmp v (row y) ≡ Less) (keys_of es) → every (λ d. row_cmp v (row d.0) ≡ Less) es
  all_less v [] h = tt
  all_less v (e ∷ es) h = (h.0, all_less v es h.1)

  pub rising : (es : List (K × X)) → IsStrictlySortedBy (on row row_cmp) (keys_of es) → Rising es
  unfolding IsStrictlySortedBy
  rising [] h = tt
  rising (e ∷ es) h = (all_less (row e.0) es h.0, rising es h.1)

  pub none_after : (v : List Val) (es : List (K × X)) → every (λ d. row_cmp v (row d.0) ≡ Less) es → under row v es ≡ None
  none_after v [] h = refl
  none_after v (e ∷ es) h = ap (λ o. cond (is_eq o) (Some e.1) (under row v es)) h.0 ∙ none_after v es h.1

  -- what stands first, under its own key, and what stands behind it
  pub first_under : (key : K) (x : X) (es : List (K × X)) → under row (row key) ((key, x) ∷ es) ≡ Some x
  first_under key x es = ap (λ o. cond (is_eq o) (Some x) (under row (row key) es)) (itself row_cmp row_linear false (row key))

  pub later_under : (key : K) (x p : X) (es : List (K × X)) (q : List Val) → every (λ d. row_cmp (row key) (row d.0) ≡ Less) es → under row q es ≡ Some p
      → (is_eq (row_cmp q (row key)) ≡ false) × (under row q ((key, x) ∷ es) ≡ Some p)
  later_under key x p es q less h = by (is_eq (row_cmp q (row key))) refl
    where
      by : (b : Bool) → is_eq (row_cmp q (row key)) ≡ b → (is_eq (row_cmp q (row key)) ≡ false) × (under row q ((key, x) ∷ es) ≡ Some p)
      by true s = absurd (let e = same_row q (row key) s in let n : under row q es ≡ None = ap (λ u. under row u es) e ∙ none_after (row key) es less in let w : None ≡ Some p = sym n ∙ h in cc)
      by false s = (s, ap (λ b. cond b (Some x) (under row q es)) s ∙ h)

  pub other_under : (key : K) (x : X) (es : List (K × X)) (q : List Val) → under row q es ≡ None → is_eq (row_cmp q (row key)) ≡ false → under row q ((key, x) ∷ es) ≡ None
  other_under key x es q h s = ap (λ b. cond b (Some x) (under row q es)) s ∙ h

  -- midway: what is left of the entries is still to be copied
  pub record Copying (copies : X → X → Type 0) (all now left : List (K × X)) : Type 0 where
    pub rises : Rising left
    pub keys : into (put row_cmp false) (rows row left) (distinct row_cmp (rows row now)) ≡ distinct row_cmp (rows row all)
    pub none : (q : List Val) → under row q all ≡ None → under row q now ≡ None
    pub waits : (q : List Val) (p : X) → under row q left ≡ Some p → under row q all ≡ Some p
    pub some : (q : List Val) (p : X) → under row q left ≡ None → under row q all ≡ Some p → (c : X) × (under row q now ≡ Some c) × copies p c

  module _ (copies : X → X → Type 0) (all : List (K × X)) where
    pub copying_first : (now left : List (K × X)) → now ≡ [] → left ≡ all → Rising all → Copying copies all now left
    copying_first now left e f r = subst (λ n. Copying copies all n left) (sym e) (subst (Copying copies all []) (sym f) (record {
      rises = r;
      keys = refl;
      none = λ q h. refl;
      waits = λ q p h. h;
      some = λ q p h g. absurd (let w : None ≡ Some p = sym h ∙ g in cc);
    }))

    pub copying_more : (now now' left rest : List (K × X)) (key : K) (p c : X) → left ≡ (key, p) ∷ rest → Puts row now (row key) c now' → copies p c → Copying copies all now left → Copying copies all now' rest
    copying_more now now' left rest key p c e puts same before = next (subst (Copying copies all now) e before)
      where
        next : Copying copies all now ((key, p) ∷ rest) → Copying copies all now' rest
        next u = record {
          rises = u.rises.1;
          keys = ap (into (put row_cmp false) (rows row rest)) puts.keys ∙ past (put row_cmp false) (put_commutes row_cmp row_linear false) (row key) (rows row rest) (distinct row_cmp (rows row now)) ∙ u.keys;
          none = λ q h. puts.at q ∙ empty q h (is_eq (row_cmp q (row key))) refl;
          waits = λ q x h. u.waits q x (later_under key p x rest q u.rises.0 h).1;
          some = λ q x h g. let s = found q x h g (is_eq (row_cmp q (row key))) refl in (s.0, puts.at q ∙ s.1, s.2);
        }
          where
            here : under row (row key) all ≡ Some p
            here = u.waits (row key) p (first_under key p rest)

            empty : (q : List Val) → under row q all ≡ None → (b : Bool) → is_eq (row_cmp q (row key)) ≡ b → (if b then Some c else under row q now) ≡ None
            empty q h true s = absurd (let a = same_row q (row key) s in let w : None ≡ Some p = sym h ∙ ap (λ v. under row v all) a ∙ here in cc)
            empty q h false s = u.none q h

            found : (q : List Val) (x : X) → under row q rest ≡ None → under row q all ≡ Some x → (b : Bool) → is_eq (row_cmp q (row key)) ≡ b → (d : X) × ((if b then Some c else under row q now) ≡ Some d) × copies x d
            found q x h g true s = let a = same_row q (row key) s in let w : p ≡ x = some_inj (sym here ∙ ap (λ v. under row v all) (sym a) ∙ g) in (c, refl, subst (λ y. copies y c) w same)
            found q x h g false s = u.some q x (other_under key p rest q h s) g

    pub copying_all : (now left : List (K × X)) → left ≡ [] → Copying copies all now left → CopiesEach row copies all now
    copying_all now left e before = done (subst (Copying copies all now) e before)
      where
        done : Copying copies all now [] → CopiesEach row copies all now
        done u = record { keys = u.keys; none = u.none; some = λ q p h. u.some q p refl h }

-- ---- contents

pub copies_same : (l : Content-F Content) → Copies l l
copies_same l = record { each = λ k h. (h, refl) }

pub copies_by : {A : Type 0} (K : A → Accum) (l l' : Content-F Content) (new : Content) → out-Content new ≡ l'
    → ((k : Accum) → HasForm l k → (a : A) × (k ≡ K a))
    → ((a : A) → Deep (K a) l → IsOf (K a) l' × (view (K a) l' ≡ view (K a) l))
    → Copies l (out-Content new)
copies_by K l l' new o known step = subst (λ m. Copies l m) (sym o) (record { each = by_kind K l known (λ k. IsOf k l' × (view k l' ≡ view k l)) step })

pub copies_set : (m m' e : BTreeSet Value) → e.keys ≡ [] → distinct place (map val m'.keys) ≡ into (put place false) (map val m.keys) (distinct place (map val e.keys)) → Copies (Content-F.Set m) (out-Content (made.Set m'))
copies_set m m' e empty d = copies_by SetAccum (Content-F.Set m) (Content-F.Set m') (made.Set m') (opened-Set m') (λ k h. h)
    (λ b deep. (((b, refl), tt), d ∙ ap (λ ks. into (put place false) (map val m.keys) (distinct place (map val ks))) empty))

pub copies_map : (o p : Content) (m m' : BTreeMap Value Content) → Copies (out-Content o) (out-Content p) → CopiesEntries m.entries m'.entries → Copies (Content-F.Map o m) (out-Content (made.Map p m'))
copies_map o p m m' first c = copies_by map_of (Content-F.Map o m) (Content-F.Map p m') (made.Map p m') (opened-Map p m') (λ k h. ((h.0, h.1), h.2))
    (λ a deep. let f = first.each a.1 deep.0.0.0 in
    let keys = c.keys in
    let there : (q : List Val) → at_or (λ d. view a.1 (out-Content d)) (fresh a.1) (under key_row q m'.entries) ≡ at_or (λ d. view a.1 (out-Content d)) (fresh a.1) (under key_row q m.entries) = λ q. at a.1 deep.1 q (under key_row q m.entries) refl in
    (((a.0, a.1, refl), (((f.0, f.1 ∙ deep.0.0.1), tt), λ q d h. of_kind a.1 deep.1 q d h (under key_row q m.entries) refl)), λ i. (keys i, λ q. there q i)))
  where
    at : (k : Accum) → Each key_row (λ d. IsOf k (out-Content d)) m.entries → (q : List Val) (o : Option Content) → under key_row q m.entries ≡ o
        → at_or (λ d. view k (out-Content d)) (fresh k) (under key_row q m'.entries) ≡ at_or (λ d. view k (out-Content d)) (fresh k) (under key_row q m.entries)
    at k all q None h = ap (at_or (λ d. view k (out-Content d)) (fresh k)) (c.none q h ∙ sym h)
    at k all q (Some x) h = let s = c.some q x h in ap (at_or (λ d. view k (out-Content d)) (fresh k)) s.1 ∙ (s.2.each k (all q x h)).1 ∙ ap (at_or (λ d. view k (out-Content d)) (fresh k)) (sym h)

    of_kind : (k : Accum) → Each key_row (λ d. IsOf k (out-Content d)) m.entries → (q : List Val) (d : Content) → under key_row q m'.entries ≡ Some d → (o : Option Content) → under key_row q m.entries ≡ o → IsOf k (out-Content d)
    of_kind k all q d h None s = absurd (let w : None ≡ Some d = sym (c.none q s) ∙ h in cc)
    of_kind k all q d h (Some x) s = let r = c.some q x s in let e : r.0 ≡ d = some_inj (sym r.1 ∙ h) in subst (λ y. IsOf k (out-Content y)) e (r.2.each k (all q x s)).0

pub value_rising : (es : List (Value × Content)) → IsStrictlySortedBy (on val place) (keys_of es) → Rising key_row es
value_rising es h = rising key_row es (subst (λ c. IsStrictlySortedBy c (keys_of es)) order_is h)
