-- How a `SortedMap` stores its values, so that a type may hold itself through one. Its shape is what a vector or a tree has
-- besides the values, and what it holds is the values, in the order of their keys.
use Rattle.std.specs.Prelude.{◌≡◌, List, [], ◌∷◌}
use mathlib.Core.Path.{refl, sym, subst}
use mathlib.Core.Logic.{◌⊎◌, inl, inr}
use mathlib.Core.Former.{Former, this, const, pair, or, via, children}
use base.Stored.{gnil}
use base.Fml.{ftrue}
use denote.RattleType.{RattleType}
use denote.Memory.{part_of}
use denote.RawPtr.{Ptr}
use denote.Sharing.{nothing}
use denote.HoleLaws.{Alike}
use denote.HolePlaces.{Recodes, struct_places, enum_places, eachs, laid, stays, one_value}
use denote.Hole.Carrier.{listed}
use denote.Hole.Fix.{over}
use denote.Param.Weighed.{Weighed}
use denote.Struct.Tuple.{Tuple, tuple_type}
use denote.Model.Placed.{held, view_places}
use Rattle.std.specs.declared.cmp.Ord as ord
use Rattle.std.specs.declared.cmp.PartialEq as eq
use Rattle.std.specs.declared.cmp.PartialOrd as partial
use Rattle.std.specs.declared.alloc.Global.{Global}
use Rattle.std.specs.contracts.alloc.Global as heap
use Rattle.std.specs.contracts.impls.GlobalAllocator.TheImpl.{ghosts}
use Rattle.std.specs.Global.{Vec}
use Rattle.std.specs.declared.boxed.Box.{Box}
use Rattle.std.specs.contracts.boxed.Box as boxed
use Rattle.std.specs.formers.vec.Vec as vector
use Rattle.std.specs.List.Sorted.{IsStrictlySortedBy, IsStrictlySortedBy-prop}
use Rattle.std.specs.Map.{keys_of}
use Rattle.std_collections.specs.Layout.BTreeMap.{BTreeMap, btree_map}
use Rattle.std_collections.specs.Layout.Former.{entry, on_value, keys_on_values}
use Rattle.std_collections.specs.formers.btree_map.BTreeMap as tree
use Rattle.std_collections.specs.contracts.btree_map.BTreeMap as tree_rows
use Rattle.gq_nest.specs.declared.form.Form.{Form}
use Rattle.gq_nest.specs.declared.form.Form.TheVariants.{Few, Many}
use Rattle.gq_nest.specs.declared.map.SortedMap.TheInside.{Inside}
use Rattle.gq_nest.specs.declared.map.SortedMap.TheView.{view, invariant}
use Rattle.gq_nest.specs.contracts.map.SortedMap as outer
use Rattle.gq_nest.specs.contracts.map.SortedMap.TheInside as inner
use Rattle.gq_nest.specs.contracts.form.Form as form
use Rattle.gq_nest.specs.SortedForms.{entries_in, seen}

abbrev pub the_former : Former {0} → Type 0 → Former {0}
the_former g K = tree.the_former g K Global

abbrev pub the_weighed : {g : Former {0}} → Weighed g → (K : Type 0) → Weighed (the_former g K)
the_weighed w K = tree.the_weighed w K Global

pub the_empty : (K : Type 0) → K → BTreeMap K ⊥
the_empty K k = btree_map [] (inl tt)

abbrev pub the_items : (K X : Type 0) → BTreeMap K X → List X
the_items K X m = tree.the_items K Global X m

pub the_items_listed : (K X : Type 0) (m : BTreeMap K X) → listed _ (children (the_former this K) X m) ≡ the_items K X m
the_items_listed K X m = tree.the_items_listed K Global X m

-- a vector of entries, or a box with a tree
abbrev Split : Type 0 → Type 0 → Type 0
Split K X = Vec (K × X) ⊎ ((Ptr × Global) × BTreeMap K X)

module _ {K X : Type 0} where
  abbrev split : Form K X → Split K X
  split (Few v) = inl v
  split (Many b) = inr ((b.ptr, b.alloc), b.value)

  abbrev join : Split K X → Form K X
  join (inl v) = Few v
  join (inr p) = Many (record { ptr = p.0.0; alloc = p.0.1; value = p.1 })

  join-split : (f : Form K X) → join (split f) ≡ f
  join-split (Few v) = refl
  join-split (Many b) = refl

  split-join : (s : Split K X) → split (join s) ≡ s
  split-join (inl v) = refl
  split-join (inr p) = refl

abbrev forms : Type 0 → Former {0}
forms K = via (or (vector.the_former (entry this K) Global) (pair (const (Ptr × Global)) (tree.the_former this K Global))) (λ X. Form K X) (λ X. split) (λ X. join) (λ X. join-split) (λ X. split-join)

abbrev fields : Type 0 → Former {0}
fields K = via (forms K) (λ X. Inside K X) (λ X a. a.form) (λ X f. record { form = f }) (λ X a. refl) (λ X f. refl)

abbrev form_over : {K X Y : Type 0} → (X → Y) → Form K X → Form K Y
form_over {K} {X} {Y} h f = (forms K).map X Y h f

module _ (K X : Type 0) where
  keeps : (f : Form K X) → held (the_former this K) X (seen f) ≡ held (forms K) X f
  keeps (Few v) = refl
  keeps (Many b) = refl

  module _ (Y : Type 0) (h : X → Y) where
    natural : (f : Form K X) → seen (form_over h f) ≡ (the_former this K).map X Y h (seen f)
    natural (Few v) = refl
    natural (Many b) = refl

    same_keys : (f : Form K X) → keys_of (entries_in (form_over h f)) ≡ keys_of (entries_in f)
    same_keys (Few v) = keys_on_values h v.items
    same_keys (Many b) = keys_on_values h b.value.entries

-- the same box round another value
abbrev holding : {X Y : Type 0} → Box X Global → Y → Box Y Global
holding b y = record { ptr = b.ptr; alloc = b.alloc; value = y }

abbrev box_row : RattleType → RattleType
box_row R = boxed.the_row R heap.the_row ghosts

module _ (R S : RattleType) (h : R.Denot → S.Denot) where
  same_box : Alike R S h → Alike (box_row R) (box_row S) (λ b. holding b (h b.value))
  unfolding part_of
  same_box same = record {
    mir_same = λ i. (box_row (one_value R (same.mir_same i) (λ _. ftrue) (λ _ _. nothing) gnil)).mir;
    own_same = λ b i. (box_row (one_value R (same.mir_same i) (same.own_same b.value i) (same.shr_same b.value i) gnil)).own_val (holding b tt);
    shr_same = λ b i. (box_row (one_value R (same.mir_same i) (same.own_same b.value i) (same.shr_same b.value i) gnil)).shr_at (holding b tt);
  }

module _ (K : RattleType) (G : ord.Ghosts K.Denot) (G' : eq.Ghosts K.Denot) (G'' : partial.Ghosts K.Denot) (R R' : RattleType) (h : R.Denot → R'.Denot) where
  abbrev pair_row : RattleType → RattleType
  pair_row V = Tuple (K ∷ V ∷ [])

  abbrev tree_row : RattleType → RattleType
  tree_row V = tree_rows.the_row K V heap.the_row G G' G'' ghosts

  abbrev map_value : BTreeMap K.Denot R.Denot → BTreeMap K.Denot R'.Denot
  map_value = (tree.the_former this K.Denot Global).map R.Denot R'.Denot h

  same_pair : Alike R R' h → Alike (pair_row R) (pair_row R') (on_value h)
  same_pair a = struct_places (tuple_type (K ∷ R ∷ [])) (tuple_type (K ∷ R' ∷ [])) ((λ k. k), (h, tt)) (on_value h) (λ d. refl) refl (stays K, (laid _ _ _ a, tt))

  variant : (f : Form K.Denot R.Denot)
      → (form.enum K R' G G' G'').as_values (form_over h f)
      ≡ eachs (form.enum K R G G' G'').parts (form.enum K R' G G' G'').parts ((vector.mapped (on_value h), tt), ((λ b. holding b (map_value b.value), tt), tt)) ((form.enum K R G G' G'').as_values f)
  variant (Few v) = refl
  variant (Many b) = refl

  form_places : Alike R R' h → Alike (form.the_row K R G G' G'') (form.the_row K R' G G' G'') (form_over h)
  form_places a = enum_places (form.enum K R G G' G'') (form.enum K R' G G' G'') ((vector.mapped (on_value h), tt), ((λ b. holding b (map_value b.value), tt), tt)) (form_over h) variant refl (
    (laid _ _ _ (vector.the_places heap.the_row ghosts (pair_row R) (pair_row R') (on_value h) (same_pair a)), tt),
    ((laid _ _ _ (same_box (tree_row R) (tree_row R') map_value (tree.the_places K heap.the_row G G' G'' ghosts R R' h a)), tt), tt),
  )

  abbrev Sorted : {X : Type 0} → Form K.Denot X → Type 0
  Sorted f = IsStrictlySortedBy G.cmp (keys_of (entries_in f))

  pub the_places : Alike R R' h → Alike (outer.the_row K R G G' G'') (outer.the_row K R' G G' G'') ((the_former this K.Denot).map R.Denot R'.Denot h)
  the_places a = view_places (fields K.Denot) (the_former this K.Denot) (λ X. view K.Denot X G G' G'')
      (λ X Y k u. natural K.Denot X Y k u.form) (λ X u. keeps K.Denot X u.form)
      R.Denot R'.Denot h (outer.the_row K R G G' G'').coded (outer.the_row K R' G G' G'').coded
      (invariant K.Denot R.Denot G G' G'') (invariant K.Denot R'.Denot G G' G'') (λ u. IsStrictlySortedBy-prop G.cmp _) (λ u. IsStrictlySortedBy-prop G.cmp _)
      (λ u s. subst (IsStrictlySortedBy G.cmp) (sym (same_keys K.Denot R.Denot R'.Denot h u.form)) s)
      (λ u s. subst (IsStrictlySortedBy G.cmp) (same_keys K.Denot R.Denot R'.Denot h u.form) s)
      (over (inner.the_row K R G G' G'')) (over (inner.the_row K R' G G' G''))
      (struct_places (inner.the_type K R G G' G'') (inner.the_type K R' G G' G'') (form_over h, tt) _ (λ d. refl) refl (laid _ _ _ (form_places a), tt))

  pub the_codes_placed : Recodes R R' h → Recodes (outer.the_row K R G G' G'') (outer.the_row K R' G G' G'') ((the_former this K.Denot).map R.Denot R'.Denot h)
  the_codes_placed e m = tree.the_codes_placed K heap.the_row G G' G'' ghosts R R' h e m
