-- Seeks: where a key is among sorted entries.
use Rattle.std.proofs.Common.{◌≡◌, ◌<◌, ◌≤◌, ◌+◌, ℕ, zero, suc, Bool, true, false, ◌||◌, cond, List, [], ◌∷◌, ◌++◌, length, get_or, drop, Option, Some, None, Ordering, Less, Equal, Greater, Ok, Err, OnOk, OnErr, Bor, refl, sym, ap, ◌∙◌, subst, arith, append_assoc}
use Rattle.std.specs.Prelude.{slice_get, slice_set}
use Rattle.std.specs.List.{AllByRecursion, insert, list_any}
use Rattle.std.specs.Option.{is_some, option_copied}
use Rattle.std.specs.Cmp.{IsTotalOrder}
use Rattle.std.specs.declared.result.Result.{Result}
use Rattle.std.specs.Ordering.{is_le, match_ordering}
use Rattle.std.specs.List.Sorted.{IsStrictlySortedBy}
use Rattle.std.specs.Map.{keys_of, values_of, lookup, set_value}
use Rattle.std.specs.BTreeMap.{is_at, insert_entry}
use Rattle.std.specs.BTreeSet.{insert_key}
use Rattle.std_collections.specs.Layout.BTreeMap.{seek, one_further}
use Rattle.std_collections.specs.Layout.Columns.{set_value_at}
use Rattle.std_collections.proofs.Entries.{lookup-none, set_value_none, keys-set_value}
use Rattle.std_collections.proofs.Seek.{seek-Ok, seek_err, found_at, missing_at, insert_entry-Ok, insert_entry_err, sorted_insert}

greater_of : (o : Ordering) → (is_le o ≡ true → ⊥) → o ≡ Greater
greater_of Less f = absurd (f refl)
greater_of Equal f = absurd (f refl)
greater_of Greater f = refl

module _ {K X : Type 0} (compare : K → Ordering) where
  step : (e : K × X) (es : List (K × X)) (o : Ordering) → compare e.0 ≡ o → seek compare (e ∷ es) ≡ match_ordering o (Err 0) (Ok 0) (one_further (seek compare es))
  step e es o h = ap (λ o. match_ordering o (Err 0) (Ok 0) (one_further (seek compare es))) h

  -- the query is below the first of some entries
  abbrev pub StartsBelow : List (K × X) → Type 0
  StartsBelow [] = Unit {0}
  StartsBelow (e ∷ es) = compare e.0 ≡ Less

  pub starts_below : (es : List (K × X)) (i : ℕ) (e : K × X) → i < length es → e ≡ get_or es i e → compare e.0 ≡ Less → StartsBelow (drop i es)
  starts_below [] i e l h g = absurd (omega (arith, l))
  starts_below (x ∷ es) zero e l h g = ap (λ v. compare v.0) (sym h) ∙ g
  starts_below (x ∷ es) (suc i) e l h g = starts_below es i e (omega (arith, l)) h g

  pub starts_end : (es : List (K × X)) (i : ℕ) → i ≡ length es → StartsBelow (drop i es)
  starts_end [] zero n = tt
  starts_end [] (suc i) n = tt
  starts_end (x ∷ es) zero n = absurd (omega (arith, n))
  starts_end (x ∷ es) (suc i) n = starts_end es i (omega (arith, n))

  pub seek_first : (es : List (K × X)) → StartsBelow es → Err 0 ≡ seek compare es
  seek_first [] b = refl
  seek_first (x ∷ es) b = sym (step x es Less b)

  pub seek_none : (es : List (K × X)) (i : ℕ) → i ≡ 0 → StartsBelow (drop i es) → Err 0 ≡ seek compare es
  seek_none es i n b = seek_first es (subst (λ m. StartsBelow (drop m es)) n b)

  module _ {cmp : K → K → Ordering} (below : (x y : K) → is_le (compare x) ≡ true → cmp x y ≡ Less → compare y ≡ Less) where
    before : (x : K) (es : List (K × X)) (i : ℕ) (e : K × X) → AllByRecursion (λ y. cmp x y ≡ Less) (keys_of es) → i < length es → e ≡ get_or es i e → cmp x e.0 ≡ Less
    before x [] i e a l h = absurd (omega (arith, l))
    before x (y ∷ es) zero e a l h = ap (λ v. cmp x v.0) h ∙ a.0
    before x (y ∷ es) (suc i) e a l h = before x es i e a.1 (omega (arith, l)) h

    -- a key that the query isn't below: the query is above all before it
    above : (x : K × X) (es : List (K × X)) (i : ℕ) (e : K × X) → AllByRecursion (λ y. cmp x.0 y ≡ Less) (keys_of es) → i < length es → e ≡ get_or es i e → (compare e.0 ≡ Less → ⊥) → compare x.0 ≡ Greater
    above x es i e a l h not = greater_of (compare x.0) (λ le. not (below x.0 e.0 le (before x.0 es i e a l h)))

    above_there : (es : List (K × X)) (i : ℕ) (e : K × X) → i < length es → e ≡ get_or es i e → compare e.0 ≡ Greater → StartsBelow (drop (suc i) es) → IsStrictlySortedBy cmp (keys_of es) → Err (suc i) ≡ seek compare es
    unfolding IsStrictlySortedBy
    above_there [] i e l h g b s = absurd (omega (arith, l))
    above_there (x ∷ es) zero e l h g b s = ap one_further (seek_first es b) ∙ sym (step x es Greater (ap (λ v. compare v.0) (sym h) ∙ g))
    above_there (x ∷ es) (suc i) e l h g b s = ap one_further (above_there es i e (omega (arith, l)) h g b s.1)
        ∙ sym (step x es Greater (above x es i e s.0 (omega (arith, l)) h (λ less. let d : Less ≡ Greater = sym less ∙ g in absurd (cc d))))

    -- the last key that the query isn't below is less
    pub seek_above : (es : List (K × X)) (end i : ℕ) (e : K × X) → end ≡ i + 1 → i < length es → e ≡ get_or es i e → compare e.0 ≡ Greater → StartsBelow (drop end es) → IsStrictlySortedBy cmp (keys_of es) → Err end ≡ seek compare es
    seek_above es end i e q l h g b s =
        let n : end ≡ suc i = omega (arith, q) in
        subst (λ m. Err m ≡ seek compare es) (sym n) (above_there es i e l h g (subst (λ m. StartsBelow (drop m es)) n b) s)

    -- or equal
    pub seek_there : (es : List (K × X)) (i : ℕ) (e : K × X) → i < length es → e ≡ get_or es i e → compare e.0 ≡ Equal → IsStrictlySortedBy cmp (keys_of es) → Ok i ≡ seek compare es
    unfolding IsStrictlySortedBy
    seek_there [] i e l h g s = absurd (omega (arith, l))
    seek_there (x ∷ es) zero e l h g s = sym (step x es Equal (ap (λ v. compare v.0) (sym h) ∙ g))
    seek_there (x ∷ es) (suc i) e l h g s = ap one_further (seek_there es i e (omega (arith, l)) h g s.1)
        ∙ sym (step x es Greater (above x es i e s.0 (omega (arith, l)) h (λ less. let d : Less ≡ Equal = sym less ∙ g in absurd (cc d))))

  set_is : (es : List (K × X)) (i : ℕ) (e : K × X) (w : X) → i < length es → e ≡ get_or es i e → slice_set es i (e.0, w) ≡ set_value_at es i w
  set_is [] i e w l h = absurd (omega (arith, l))
  set_is (x ∷ es) zero e w l h = ap (λ v. (v.0, w) ∷ es) h
  set_is (x ∷ es) (suc i) e w l h = ap (λ l. x ∷ l) (set_is es i e w (omega (arith, l)) h)

  value_is : (es : List (K × X)) (i : ℕ) (e : K × X) → i < length es → e ≡ get_or es i e → slice_get (values_of es) i ≡ Some e.1
  value_is [] i e l h = absurd (omega (arith, l))
  value_is (x ∷ es) zero e l h = ap (λ v. Some v.1) (sym h)
  value_is (x ∷ es) (suc i) e l h = value_is es i e (omega (arith, l)) h

  module _ (es : List (K × X)) (i : ℕ) (s : Ok i ≡ seek compare es) where
    pub within : i < length es
    within = (seek-Ok compare es i (sym s)).0

    pub within_end : i ≤ length es
    within_end = let l = within in omega (arith, l)

    -- the value at the key that was found, and what is written there
    pub finds : (e : K × X) → e ≡ get_or es i e → Some e.1 ≡ lookup (is_at compare) es
    finds e h = sym ((found_at compare es i (sym s)).value ∙ value_is es i e within h)

    pub writes : (e : K × X) (w : X) → e ≡ get_or es i e → slice_set es i (e.0, w) ≡ set_value (is_at compare) es w
    writes e w h = set_is es i e w within h ∙ (found_at compare es i (sym s)).writes w

    pub writes_at : (e : K × X) (w : X) → e ≡ get_or es i e → slice_set es i (e.0, w) ≡ set_value_at es i w
    writes_at e w h = set_is es i e w within h

  module _ {cmp : K → K → Ordering} (below : (x y : K) → is_le (compare x) ≡ true → cmp x y ≡ Less → compare y ≡ Less) (es : List (K × X)) (i : ℕ) (up : IsStrictlySortedBy cmp (keys_of es)) (s : Err i ≡ seek compare es) where
    -- nothing is there
    pub lacks : None ≡ lookup (is_at compare) es
    lacks = sym (lookup-none (is_at compare) es (missing_at compare below es i up (sym s)))

    pub unwritten : (w : X) → es ≡ set_value (is_at compare) es w
    unwritten w = sym (set_value_none (is_at compare) es w (missing_at compare below es i up (sym s)))

module _ {K X : Type 0} (cmp : K → K → Ordering) where
  -- an entry below the first goes in front
  pub insert_first : (es : List (K × X)) (k : K) (v : X) → IsStrictlySortedBy cmp (k ∷ keys_of es) → insert_entry cmp es k v ≡ (k, v) ∷ es
  unfolding IsStrictlySortedBy
  insert_first [] k v s = refl
  insert_first (e ∷ es) k v s = ap (λ o. match_ordering o ((k, v) ∷ e ∷ es) ((e.0, v) ∷ es) (e ∷ insert_entry cmp es k v)) s.0.0

  -- and so does the last of some entries before others
  pub sorted_end : (es fs : List (K × X)) → IsStrictlySortedBy cmp (keys_of (es ++ fs)) → IsStrictlySortedBy cmp (keys_of fs)
  unfolding IsStrictlySortedBy
  sorted_end [] fs s = s
  sorted_end (e ∷ es) fs s = sorted_end es fs s.1

  all_start : (P : K → Type 0) (es fs : List (K × X)) → AllByRecursion P (keys_of (es ++ fs)) → AllByRecursion P (keys_of es)
  all_start P [] fs a = tt
  all_start P (e ∷ es) fs a = (a.0, all_start P es fs a.1)

  pub sorted_start : (es fs : List (K × X)) → IsStrictlySortedBy cmp (keys_of (es ++ fs)) → IsStrictlySortedBy cmp (keys_of es)
  unfolding IsStrictlySortedBy
  sorted_start [] fs s = tt
  sorted_start (e ∷ es) fs s = (all_start _ es fs s.0, sorted_start es fs s.1)

  -- the keys after an entry is put in
  pub keys_inserted : (es : List (K × X)) (k : K) (v : X) → keys_of (insert_entry cmp es k v) ≡ insert_key cmp (keys_of es) k
  keys_inserted [] k v = refl
  keys_inserted (e ∷ es) k v = by (cmp k e.0) (keys_inserted es k v)
    where
      by : (o : Ordering) → keys_of (insert_entry cmp es k v) ≡ insert_key cmp (keys_of es) k
          → keys_of (match_ordering o ((k, v) ∷ e ∷ es) ((e.0, v) ∷ es) (e ∷ insert_entry cmp es k v)) ≡ match_ordering o (k ∷ e.0 ∷ keys_of es) (e.0 ∷ keys_of es) (e.0 ∷ insert_key cmp (keys_of es) k)
      by Less h = refl
      by Equal h = refl
      by Greater h = ap (λ l. e.0 ∷ l) h

  pub none_sorted : (es : List (K × X)) → es ≡ [] → IsStrictlySortedBy cmp (keys_of es)
  unfolding IsStrictlySortedBy
  none_sorted es e = subst (λ l. IsStrictlySortedBy cmp (keys_of l)) (sym e) tt

  pub still_sorted : (test : K → Bool) (es fs : List (K × X)) (w : X) → fs ≡ set_value test es w → IsStrictlySortedBy cmp (keys_of es) → IsStrictlySortedBy cmp (keys_of fs)
  still_sorted test es fs w e s = subst (IsStrictlySortedBy cmp) (sym (ap keys_of e ∙ keys-set_value test es w)) s

  pub same_sorted : (es fs : List (K × X)) → fs ≡ es → IsStrictlySortedBy cmp (keys_of es) → IsStrictlySortedBy cmp (keys_of fs)
  same_sorted es fs e s = subst (λ l. IsStrictlySortedBy cmp (keys_of l)) (sym e) s

  module _ (total : IsTotalOrder cmp) (k : K) (v : X) (es : List (K × X)) (i : ℕ) where
    -- another value at a key that is there
    pub replaced : Ok i ≡ seek (cmp k) es → (e : K × X) → e ≡ get_or es i e → slice_set es i (e.0, v) ≡ insert_entry cmp es k v
    replaced s e h = writes_at (cmp k) es i s e v h ∙ insert_entry-Ok cmp k v es i (sym s)

    pub replaced_sorted : Ok i ≡ seek (cmp k) es → (e : K × X) → e ≡ get_or es i e → IsStrictlySortedBy cmp (keys_of es) → IsStrictlySortedBy cmp (keys_of (slice_set es i (e.0, v)))
    replaced_sorted s e h up = still_sorted (is_at (cmp k)) es _ v (writes (cmp k) es i s e v h) up

    -- a key that is new
    pub before_end : Err i ≡ seek (cmp k) es → i ≤ length es
    before_end s = (seek_err (cmp k) es i (sym s)).0

    pub added : Err i ≡ seek (cmp k) es → insert es i (k, v) ≡ insert_entry cmp es k v
    added s = insert_entry_err cmp k v es i (sym s)

    pub added_sorted : Err i ≡ seek (cmp k) es → IsStrictlySortedBy cmp (keys_of es) → IsStrictlySortedBy cmp (keys_of (insert es i (k, v)))
    added_sorted s up = sorted_insert cmp k v total es i up (sym s)

-- after a call that put an entry at its place, or found no memory
module _ {K X A E : Type 0} {cmp : K → K → Ordering} (total : IsTotalOrder cmp) (k : K) (v : X) (es new : List (K × X)) (i : ℕ) (s : Err i ≡ seek (cmp k) es) where
  pub added_ok : (r : Result A E) → OnOk r (new ≡ insert es i (k, v)) → OnOk r (new ≡ insert_entry cmp es k v)
  added_ok (Ok x) p = p ∙ added cmp total k v es i s
  added_ok (Err x) p = tt

  pub added_up : (r : Result A E) → OnOk r (new ≡ insert es i (k, v)) → OnErr r (new ≡ es) → IsStrictlySortedBy cmp (keys_of es) → IsStrictlySortedBy cmp (keys_of new)
  added_up (Ok x) p q up = same_sorted cmp _ new p (added_sorted cmp total k v es i s up)
  added_up (Err x) p q up = same_sorted cmp es new q up

pub keys_ok : {K X A E : Type 0} (cmp : K → K → Ordering) (r : Result A E) (es new : List (K × X)) (k : K) (v : X) → OnOk r (new ≡ insert_entry cmp es k v) → OnOk r (keys_of new ≡ insert_key cmp (keys_of es) k)
keys_ok cmp (Ok x) es new k v p = ap keys_of p ∙ keys_inserted cmp es k v
keys_ok cmp (Err x) es new k v p = tt

copied_some : {X : Type 0} (r : Option (Bor X)) → is_some r ≡ is_some (option_copied r)
copied_some None = refl
copied_some (Some x) = refl

any_key : {K X : Type 0} (test : K → Bool) (es : List (K × X)) → is_some (lookup test es) ≡ list_any test (keys_of es)
any_key test [] = refl
any_key test (e ∷ es) = by (test e.0) (any_key test es)
  where
    by : (b : Bool) → is_some (lookup test es) ≡ list_any test (keys_of es) → is_some (cond b (Some e.1) (lookup test es)) ≡ (b || list_any test (keys_of es))
    by true h = refl
    by false h = h

-- whether a key is there
pub asks : {K X : Type 0} (test : K → Bool) (es : List (K × X)) (r : Option (Bor X)) → option_copied r ≡ lookup test es → is_some r ≡ list_any test (keys_of es)
asks test es r h = copied_some r ∙ ap is_some h ∙ any_key test es

-- the last of some entries leaves, and is put before those that left earlier
module _ {K X : Type 0} (cmp : K → K → Ordering) (es fs all old : List (K × X)) (k : K) (v : X) (o : old ≡ es ++ (k, v) ∷ []) (e : old ++ fs ≡ all) (s : IsStrictlySortedBy cmp (keys_of all)) where
  whole : es ++ (k, v) ∷ fs ≡ all
  whole = sym (append_assoc es ((k, v) ∷ []) fs) ∙ ap (λ l. l ++ fs) (sym o) ∙ e

  up : IsStrictlySortedBy cmp (keys_of (es ++ (k, v) ∷ fs))
  up = subst (λ l. IsStrictlySortedBy cmp (keys_of l)) (sym whole) s

  pub one_more : (more : List (K × X)) → more ≡ insert_entry cmp fs k v → es ++ more ≡ all
  one_more more m = ap (λ l. es ++ l) (m ∙ insert_first cmp fs k v (sorted_end cmp es ((k, v) ∷ fs) up)) ∙ whole

  pub one_less : IsStrictlySortedBy cmp (keys_of es)
  one_less = sorted_start cmp es ((k, v) ∷ fs) up
