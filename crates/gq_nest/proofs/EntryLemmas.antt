-- Entries: what stands under a key row after one is put in, and what keys there are.
use Rattle.std.proofs.Common.{if◌then◌else◌, ◌≡◌, ◌<◌, ◌≤◌, Bool, true, false, cond, List, [], ◌∷◌, map, Option, Some, None, Ordering, Less, Equal, Greater, length, get_or, refl, sym, ap, ◌∙◌, subst, arith}
use Rattle.std.specs.Ordering.{is_eq, on, match_ordering, ordering_then}
use Rattle.std.specs.BTreeMap.{insert_entry}
use Rattle.std.specs.Map.{lookup, set_value}
use Rattle.gq_value.specs.declared.value.Value.{Value}
use Rattle.gq_value.specs.Val.{Val}
use Rattle.gq_value.specs.Views.{val}
use Rattle.gq_value.specs.Order.{place}
use Rattle.gq_accum_laws.specs.Gather.{put, choose, distinct}
use Rattle.gq_accum_laws.specs.Holds.{row_cmp}
use Rattle.gq_accum_laws.proofs.GatherLaws.{put_commutes, put_into, again, itself}
use Rattle.gq_accum_laws.proofs.RowLaws.{row_linear}
use Rattle.gq_nest.specs.Entries.{key_row, at_or, is_row, rows, under, Each, Puts, Changes}

pub some_inj : {X : Type 0} {a b : X} → Some a ≡ Some b → a ≡ b
some_inj h = cc

eq_is : (o : Ordering) → is_eq o ≡ true → o ≡ Equal
eq_is Less h = absurd (cc h)
eq_is Equal h = refl
eq_is Greater h = absurd (cc h)

pub same_row : (a b : List Val) → is_eq (row_cmp a b) ≡ true → a ≡ b
same_row a b h = row_linear.only a b (eq_is (row_cmp a b) h)

apart : (q v w : List Val) → row_cmp v w ≡ Greater → is_eq (row_cmp q w) ≡ true → is_eq (row_cmp q v) ≡ true → ⊥
apart q v w g a b = let e : v ≡ w = sym (same_row q v b) ∙ same_row q w a in
    let i : row_cmp v w ≡ Equal = ap (row_cmp v) (sym e) ∙ itself row_cmp row_linear false v in
    let j : Equal ≡ Greater = sym i ∙ g in cc

module _ {K X : Type 0} (row : K → List Val) where
  -- an entry more
  pub lookup_insert : (es : List (K × X)) (key : K) (w : X) (q : List Val) → lookup (is_row row q) (insert_entry (on row row_cmp) es key w) ≡ (if is_row row q key then Some w else lookup (is_row row q) es)
  lookup_insert [] key w q = refl
  lookup_insert (e ∷ es) key w q = by (row_cmp (row key) (row e.0)) refl (lookup_insert es key w q)
    where
      other : (b d : Bool) → is_row row q e.0 ≡ b → is_row row q key ≡ d → row_cmp (row key) (row e.0) ≡ Greater
          → cond b (Some e.1) (if d then Some w else lookup (is_row row q) es) ≡ (if d then Some w else cond b (Some e.1) (lookup (is_row row q) es))
      other true true x y g = absurd (apart q (row key) (row e.0) g x y)
      other true false x y g = refl
      other false true x y g = refl
      other false false x y g = refl

      both : (b : Bool) → cond b (Some w) (lookup (is_row row q) es) ≡ (if b then Some w else cond b (Some e.1) (lookup (is_row row q) es))
      both true = refl
      both false = refl

      by : (o : Ordering) → row_cmp (row key) (row e.0) ≡ o → lookup (is_row row q) (insert_entry (on row row_cmp) es key w) ≡ (if is_row row q key then Some w else lookup (is_row row q) es)
          → lookup (is_row row q) (match_ordering o ((key, w) ∷ e ∷ es) ((e.0, w) ∷ es) (e ∷ insert_entry (on row row_cmp) es key w)) ≡ (if is_row row q key then Some w else cond (is_row row q e.0) (Some e.1) (lookup (is_row row q) es))
      by Less g h = refl
      by Equal g h = let same : row key ≡ row e.0 = row_linear.only (row key) (row e.0) g in
          subst (λ v. cond (is_row row q e.0) (Some w) (lookup (is_row row q) es) ≡ (if is_eq (row_cmp q v) then Some w else cond (is_row row q e.0) (Some e.1) (lookup (is_row row q) es))) (sym same) (both (is_row row q e.0))
      by Greater g h = ap (λ t. cond (is_row row q e.0) (Some e.1) t) h ∙ other (is_row row q e.0) (is_row row q key) refl refl g

  pub keys_insert : (es : List (K × X)) (key : K) (w : X) → map (λ e. row e.0) (insert_entry (on row row_cmp) es key w) ≡ put row_cmp false (row key) (map (λ e. row e.0) es)
  keys_insert [] key w = refl
  keys_insert (e ∷ es) key w = by (row_cmp (row key) (row e.0)) (keys_insert es key w)
    where
      by : (o : Ordering) → map (λ e. row e.0) (insert_entry (on row row_cmp) es key w) ≡ put row_cmp false (row key) (map (λ e. row e.0) es)
          → map (λ e. row e.0) (match_ordering o ((key, w) ∷ e ∷ es) ((e.0, w) ∷ es) (e ∷ insert_entry (on row row_cmp) es key w))
          ≡ choose o (row key ∷ row e.0 ∷ map (λ e. row e.0) es) (row e.0 ∷ map (λ e. row e.0) es) (row e.0 ∷ put row_cmp false (row key) (map (λ e. row e.0) es))
      by Less h = refl
      by Equal h = refl
      by Greater h = ap (λ l. row e.0 ∷ l) h

  -- another content at a key
  pub lookup_set : (v : List Val) (es : List (K × X)) (p w : X) (q : List Val) → lookup (is_row row v) es ≡ Some p → lookup (is_row row q) (set_value (is_row row v) es w) ≡ (if is_eq (row_cmp q v) then Some w else lookup (is_row row q) es)
  lookup_set v [] p w q h = absurd (cc h)
  lookup_set v (e ∷ es) p w q h = by (is_row row v e.0) refl h (lookup_set v es p w q)
    where
      both : (b : Bool) → cond b (Some w) (lookup (is_row row q) es) ≡ (if b then Some w else cond b (Some e.1) (lookup (is_row row q) es))
      both true = refl
      both false = refl

      other : (b d : Bool) → is_row row q e.0 ≡ b → is_eq (row_cmp q v) ≡ d → is_row row v e.0 ≡ false
          → cond b (Some e.1) (if d then Some w else lookup (is_row row q) es) ≡ (if d then Some w else cond b (Some e.1) (lookup (is_row row q) es))
      other true true x y g = absurd (let same : v ≡ q = sym (same_row q v y) in let s : is_row row v e.0 ≡ true = ap (λ u. is_eq (row_cmp u (row e.0))) same ∙ x in let r : true ≡ false = sym s ∙ g in cc)
      other true false x y g = refl
      other false true x y g = refl
      other false false x y g = refl

      by : (b : Bool) → is_row row v e.0 ≡ b → cond b (Some e.1) (lookup (is_row row v) es) ≡ Some p
          → (lookup (is_row row v) es ≡ Some p → lookup (is_row row q) (set_value (is_row row v) es w) ≡ (if is_eq (row_cmp q v) then Some w else lookup (is_row row q) es))
          → lookup (is_row row q) (cond b ((e.0, w) ∷ es) (e ∷ set_value (is_row row v) es w)) ≡ (if is_eq (row_cmp q v) then Some w else cond (is_row row q e.0) (Some e.1) (lookup (is_row row q) es))
      by true g s h = subst (λ u. cond (is_row row q e.0) (Some w) (lookup (is_row row q) es) ≡ (if is_eq (row_cmp q u) then Some w else cond (is_row row q e.0) (Some e.1) (lookup (is_row row q) es))) (sym (same_row v (row e.0) g)) (both (is_row row q e.0))
      by false g s h = ap (λ t. cond (is_row row q e.0) (Some e.1) t) (h s) ∙ other (is_row row q e.0) (is_eq (row_cmp q v)) refl refl g

  pub keys_set : (v : List Val) (es : List (K × X)) (w : X) → map (λ e. row e.0) (set_value (is_row row v) es w) ≡ map (λ e. row e.0) es
  keys_set v [] w = refl
  keys_set v (e ∷ es) w = by (is_row row v e.0) (keys_set v es w)
    where
      by : (b : Bool) → map (λ e. row e.0) (set_value (is_row row v) es w) ≡ map (λ e. row e.0) es → map (λ e. row e.0) (cond b ((e.0, w) ∷ es) (e ∷ set_value (is_row row v) es w)) ≡ row e.0 ∷ map (λ e. row e.0) es
      by true h = refl
      by false h = ap (λ l. row e.0 ∷ l) h

  -- a key that is there stands once
  pub keys_there : (v : List Val) (es : List (K × X)) (p : X) → lookup (is_row row v) es ≡ Some p → put row_cmp false v (distinct row_cmp (map (λ e. row e.0) es)) ≡ distinct row_cmp (map (λ e. row e.0) es)
  keys_there v [] p h = absurd (cc h)
  keys_there v (e ∷ es) p h = by (is_row row v e.0) refl h (keys_there v es p)
    where
      rest : List (List Val)
      rest = distinct row_cmp (map (λ e. row e.0) es)

      by : (b : Bool) → is_row row v e.0 ≡ b → cond b (Some e.1) (lookup (is_row row v) es) ≡ Some p → (lookup (is_row row v) es ≡ Some p → put row_cmp false v rest ≡ rest) → put row_cmp false v (put row_cmp false (row e.0) rest) ≡ put row_cmp false (row e.0) rest
      by true g s h = subst (λ u. put row_cmp false u (put row_cmp false (row e.0) rest) ≡ put row_cmp false (row e.0) rest) (sym (same_row v (row e.0) g)) (again row_cmp row_linear false false refl refl (row e.0) rest)
      by false g s h = put_commutes row_cmp row_linear false v (row e.0) rest ∙ ap (put row_cmp false (row e.0)) (h s)

  -- an entry put in shows under its row alone
  pub puts_new : (es es' : List (K × X)) (key : K) (w : X) → es' ≡ insert_entry (on row row_cmp) es key w → Puts row es (row key) w es'
  puts_new es es' key w is = subst (Puts row es (row key) w) (sym is) (record {
    keys = ap (distinct row_cmp) (keys_insert es key w) ∙ put_into row_cmp row_linear false (row key) (rows row es) [];
    at = λ q. lookup_insert es key w q;
  })

  pub puts_there : (es es' : List (K × X)) (v : List Val) (p w : X) → under row v es ≡ Some p → es' ≡ set_value (is_row row v) es w → Puts row es v w es'
  puts_there es es' v p w found is = subst (Puts row es v w) (sym is) (record {
    keys = ap (distinct row_cmp) (keys_set v es w) ∙ sym (keys_there v es p found);
    at = λ q. lookup_set v es p w q found;
  })

  -- a step of what is there, and of what a new key begins with
  pub changes_there : (begins : X → Type 0) (step : X → X → Type 0) (es es' : List (K × X)) (v : List Val) (p w : X) → Some p ≡ under row v es → es' ≡ set_value (is_row row v) es w → step p w → Changes row begins step es v es'
  changes_there begins step es es' v p w found is s = record {
    was = p;
    now = w;
    begun = λ h. absurd (let c : Some p ≡ None = found ∙ h in cc);
    found = λ x h. sym (some_inj (found ∙ h));
    stepped = s;
    puts = puts_there es es' v p w (sym found) is;
  }

  pub changes_new : (begins : X → Type 0) (step : X → X → Type 0) (es es' : List (K × X)) (key : K) (p w : X) → None ≡ under row (row key) es → es' ≡ insert_entry (on row row_cmp) es key w → begins p → step p w → Changes row begins step es (row key) es'
  changes_new begins step es es' key p w none is b s = record {
    was = p;
    now = w;
    begun = λ h. b;
    found = λ x h. absurd (let c : None ≡ Some x = none ∙ h in cc);
    stepped = s;
    puts = puts_new es es' key w is;
  }

  -- what is read under each row, where a step is f of what is read
  module _ {C : Type 0} (look : X → C) (d : C) where
    pub changed : (begins : X → Type 0) (step : X → X → Type 0) (P : X → Type 0) (f : C → C) (es es' : List (K × X)) (v : List Val)
        → Changes row begins step es v es' → Each row P es
        → ((x : X) → begins x → P x × (look x ≡ d))
        → ((was now : X) → step was now → P was → look was ≡ at_or look d (under row v es) → P now × (look now ≡ f (look was)))
        → Each row P es' × ((q : List Val) → at_or look d (under row q es') ≡ (if is_eq (row_cmp q v) then f (at_or look d (under row q es)) else at_or look d (under row q es)))
    changed begins step P f es es' v c all first go = (λ q x h. still q x (is_eq (row_cmp q v)) refl (sym (c.puts.at q) ∙ h), λ q. ap (at_or look d) (c.puts.at q) ∙ by q (is_eq (row_cmp q v)) refl)
      where
        start : (o : Option X) → under row v es ≡ o → P c.was × (look c.was ≡ at_or look d (under row v es))
        start None h = let b = first c.was (c.begun h) in (b.0, b.1 ∙ ap (at_or look d) (sym h))
        start (Some x) h = let e = c.found x h in
            (subst P e (all v x h), ap look (sym e) ∙ ap (at_or look d) (sym h))

        s : P c.was × (look c.was ≡ at_or look d (under row v es))
        s = start (under row v es) refl

        r : P c.now × (look c.now ≡ f (look c.was))
        r = go c.was c.now c.stepped s.0 s.1

        still : (q : List Val) (x : X) (b : Bool) → is_eq (row_cmp q v) ≡ b → (if b then Some c.now else under row q es) ≡ Some x → P x
        still q x true h e = subst P (some_inj e) r.0
        still q x false h e = all q x e

        by : (q : List Val) (b : Bool) → is_eq (row_cmp q v) ≡ b
            → at_or look d (if b then Some c.now else under row q es) ≡ (if b then f (at_or look d (under row q es)) else at_or look d (under row q es))
        by q true h = r.1 ∙ ap f s.1 ∙ ap (λ u. f (at_or look d (under row u es))) (sym (same_row q v h))
        by q false h = refl

-- a key of one value
single : (a b : Val) → row_cmp (a ∷ []) (b ∷ []) ≡ place a b
single a b = by (place a b)
  where
    by : (o : Ordering) → ordering_then o Equal ≡ o
    by Less = refl
    by Equal = refl
    by Greater = refl

pub order_is : on val place ≡ on key_row row_cmp
order_is = λ i x y. sym (single (val x) (val y)) i

pub test_is : (v : Val) → (λ k. is_eq (place v (val k))) ≡ is_row key_row (v ∷ [])
test_is v = λ i k. is_eq (sym (single v (val k)) i)

-- the same over keys that are values, as ordered maps say it
module _ {X : Type 0} (begins : X → Type 0) (step : X → X → Type 0) (es es' : List (Value × X)) where
  pub value_there : (v : Val) (p w : X) → Some p ≡ lookup (λ k. is_eq (place v (val k))) es → es' ≡ set_value (λ k. is_eq (place v (val k))) es w → step p w → Changes key_row begins step es (v ∷ []) es'
  value_there v p w found is s = changes_there key_row begins step es es' (v ∷ []) p w (found ∙ ap (λ t. lookup t es) (test_is v)) (is ∙ ap (λ t. set_value t es w) (test_is v)) s

  pub value_new : (key : Value) (v : Val) (p w : X) → val key ≡ v → None ≡ lookup (λ k. is_eq (place v (val k))) es → begins p → step p w → es' ≡ insert_entry (on val place) es key w → Changes key_row begins step es (v ∷ []) es'
  value_new key v p w same none b s is = subst (λ u. Changes key_row begins step es (u ∷ []) es') same
      (changes_new key_row begins step es es' key p w
      (none ∙ ap (λ t. lookup t es) (test_is v) ∙ ap (λ u. under key_row (u ∷ []) es) (sym same))
      (is ∙ ap (λ c. insert_entry c es key w) order_is) b s)

pub value_puts : {X : Type 0} (es es' : List (Value × X)) (key : Value) (v : Val) (w : X) → val key ≡ v → es' ≡ insert_entry (on val place) es key w → Puts key_row es (v ∷ []) w es'
value_puts es es' key v w same is = subst (λ u. Puts key_row es (u ∷ []) w es') same (puts_new key_row es es' key w (is ∙ ap (λ c. insert_entry c es key w) order_is))

-- a slice of one item
pub one_item : {A : Type 0} (xs ys : List A) (x : A) → ys ≡ xs → 1 ≤ length ys → length ys < 2 → x ≡ get_or ys 0 x → xs ≡ x ∷ []
one_item xs ys x e some few h = sym e ∙ by ys some few h
  where
    by : (ys : List _) → 1 ≤ length ys → length ys < 2 → x ≡ get_or ys 0 x → ys ≡ x ∷ []
    by [] m n h = absurd (omega (arith, m))
    by (y ∷ []) m n h = ap (λ z. z ∷ []) (sym h)
    by (y ∷ z ∷ zs) m n h = absurd (omega (arith, n))
