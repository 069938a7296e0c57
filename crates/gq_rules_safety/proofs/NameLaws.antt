-- NameLaws: names that come into view, that change, and that end with a body.
use Rattle.std.proofs.Common.{◌≡◌, ◌+◌, Bool, true, false, List, [], ◌∷◌, ◌++◌, map, length, arith, Option, Some, None, refl, ap, sym, ◌∙◌, subst}
use Rattle.std.specs.Prelude.{◌-◌, if◌then◌else◌, drop, is_some}
use Rattle.gq_value.specs.Accums.{Accum}
use Rattle.gq_rules_typing.specs.Words.{under}
use Rattle.gq_rules_typing.specs.Scopes.{Entry, Accumulator, Scope, entry, with_entry}
use Rattle.gq_rules_meaning.specs.Expressions.{World}
use Rattle.gq_rules_meaning.specs.States.{Thing, State, thing_named, with_new, with_name, changed, without_new}
use Rattle.gq_rules_meaning.specs.StateFits.{ThingFits, AccumFits, AllOf}
use Rattle.gq_rules_safety.specs.Matching.{WordsFit, has_thing, StateIs}

-- an entry whose name denotes a thing, not an accumulator
abbrev pub IsNamed : Entry → Type 0
IsNamed e = has_thing (Some e) ≡ true

abbrev pub keys : {N A : Type 0} → List (N × A) → List N
keys names = map (λ e. e.0) names

-- ---- scopes that grow

-- visible names stay visible, with the same entries
pub record Grows {N : Type 0} (s t : Scope N) : Type 0 where
  pub setting : t.setting ≡ s.setting
  pub kept : (x : N) (e : Entry) → entry s x ≡ Some e → entry t x ≡ Some e

pub grows_same : {N : Type 0} (s : Scope N) → Grows s s
grows_same s = record { setting = refl; kept = λ x e h. h }

pub grows_then : {N : Type 0} (s t u : Scope N) → Grows s t → Grows t u → Grows s u
grows_then s t u g h = record { setting = h.setting ∙ g.setting; kept = λ x e k. h.kept x e (g.kept x e k) }

-- a name that isn't visible later wasn't visible before
pub grew_none : {N : Type 0} (s t : Scope N) → Grows s t → (x : N) → entry t x ≡ None → entry s x ≡ None
grew_none s t g x h = go (entry s x) refl
  where
    go : (o : Option Entry) → entry s x ≡ o → entry s x ≡ None
    go None e = e
    go (Some d) e = let k = g.kept x d e in cc

pub appended_all : {A : Type 0} (P : A → Type 0) (xs ys : List A) → AllOf P xs → AllOf P ys → AllOf P (xs ++ ys)
appended_all P [] ys h g = g
appended_all P (x ∷ xs) ys h g = (h.0, appended_all P xs ys h.1 g)

pub all_with : {A : Type 0} (P Q : A → Type 0) (xs : List A) → ((x : A) → P x → Q x) → AllOf P xs → AllOf Q xs
all_with P Q [] f h = tt
all_with P Q (x ∷ xs) f h = (f x h.0, all_with P Q xs f h.1)

append_assoc : {A : Type 0} (xs ys zs : List A) → xs ++ (ys ++ zs) ≡ (xs ++ ys) ++ zs
append_assoc [] ys zs = refl
append_assoc (x ∷ xs) ys zs = ap (λ l. x ∷ l) (append_assoc xs ys zs)

module _ {N : Type 0} (world : World N) (words : WordsFit world) where
  abbrev same : N → N → Bool
  same = world.words.same

  -- ---- states that follow a scope

  -- the names are those before, with new ones in front that weren't visible
  pub record Extends (s : Scope N) (before after : State N) : Type 0 where
    pub news : List N
    pub keys : keys after.names ≡ news ++ keys before.names
    pub new : AllOf (λ x. entry s x ≡ None) news

  -- a state after statements between two scopes
  pub record Behind (s t : Scope N) (before after : State N) : Type 0 where
    pub is : StateIs world t after
    pub extends : Extends s before after

  pub extends_same : (s : Scope N) (a : State N) → Extends s a a
  extends_same s a = record { news = []; keys = refl; new = tt }

  pub extends_then : (s t : Scope N) (a b c : State N) → Grows s t → Extends s a b → Extends t b c → Extends s a c
  extends_then s t a b c g h k = record {
    news = k.news ++ h.news;
    keys = k.keys ∙ ap (λ l. k.news ++ l) h.keys ∙ append_assoc k.news h.news (keys a.names);
    new = appended_all (λ x. entry s x ≡ None) k.news h.news (all_with (λ x. entry t x ≡ None) (λ x. entry s x ≡ None) k.news (grew_none s t g) k.new) h.new;
  }

  -- ---- looking up

  pub under_new : {A : Type 0} (x y : N) (a : A) (es : List (N × A)) → (q : Bool) → same x y ≡ q → under same y ((x, a) ∷ es) ≡ (if q then Some a else under same y es)
  under_new x y a es q e = ap (λ b. if b then Some a else under same y es) e

  scope_same : (s : Scope N) (state : State N) → StateIs world s state → s.setting.words.same ≡ same
  scope_same s state h = ap (λ z. z.words.same) h.fits.setting

  pub entry_new : (s : Scope N) (x y : N) (e : Entry) → s.setting.words.same ≡ same → (q : Bool) → same x y ≡ q → entry (with_entry x e s) y ≡ (if q then Some e else entry s y)
  entry_new s x y e f q g = ap (λ p. if p x y then Some e else entry s y) f ∙ ap (λ b. if b then Some e else entry s y) g

  -- a new name is visible after the others
  pub grows_new : (s : Scope N) (x : N) (e : Entry) → s.setting.words.same ≡ same → entry s x ≡ None → Grows s (with_entry x e s)
  grows_new s x e f h = record { setting = refl; kept = λ y d k. go y d k (same x y) refl }
    where
      go : (y : N) (d : Entry) → entry s y ≡ Some d → (q : Bool) → same x y ≡ q → entry (with_entry x e s) y ≡ Some d
      go y d k true g = let u = words.same x y g in let v : entry s y ≡ None = subst (λ z. entry s z ≡ None) u h in cc
      go y d k false g = entry_new s x y e f false g ∙ k

  abbrev NewFits : Scope N → N → Entry → Thing → State N → Type 0
  NewFits s x e thing state = StateIs world (with_entry x e s) (with_new x thing state)

  pub new_is : (s : Scope N) (state : State N) (x : N) (e : Entry) (thing : Thing) → StateIs world s state → IsNamed e → ThingFits world e (Some thing) → NewFits s x e thing state
  new_is s state x e thing h named fit = record {
    fits = record {
      store = h.fits.store;
      setting = h.fits.setting;
      named = λ y d k. go_named y d (same x y) refl k;
      accum = λ a k attached r. go_accum a k attached (same x a) refl r;
    };
    alone = λ y k. go_alone y (same x y) refl k;
  }
    where
      f : s.setting.words.same ≡ same
      f = scope_same s state h

      go_named : (y : N) (d : Entry) (q : Bool) → same x y ≡ q → entry (with_entry x e s) y ≡ Some d → ThingFits world d (thing_named world ((x, thing) ∷ state.names) y)
      go_named y d true g k = let u = entry_new s x y e f true g in let v : e ≡ d = cc in subst (ThingFits world d) (sym (under_new x y thing state.names true g)) (subst (λ d. ThingFits world d (Some thing)) v fit)
      go_named y d false g k = let u = entry_new s x y e f false g in subst (ThingFits world d) (sym (under_new x y thing state.names false g)) (h.fits.named y d (sym u ∙ k))

      not_accum : (d : Entry) (k : Accum) (attached : Bool) → IsNamed d → d ≡ Accumulator k attached → ⊥
      not_accum d k attached n r = let m : IsNamed (Accumulator k attached) = subst IsNamed r n in absurd (cc m)

      go_accum : (a : N) (k : Accum) (attached : Bool) (q : Bool) → same x a ≡ q → entry (with_entry x e s) a ≡ Some (Accumulator k attached) → AccumFits world state.slots a k attached
      go_accum a k attached true g r = let u = entry_new s x a e f true g in let v : e ≡ Accumulator k attached = cc in absurd (not_accum e k attached named v)
      go_accum a k attached false g r = h.fits.accum a k attached (sym (entry_new s x a e f false g) ∙ r)

      go_alone : (y : N) (q : Bool) → same x y ≡ q → has_thing (entry (with_entry x e s) y) ≡ false → thing_named world ((x, thing) ∷ state.names) y ≡ None
      go_alone y true g k = let u : true ≡ false = sym named ∙ sym (ap has_thing (entry_new s x y e f true g)) ∙ k in absurd (cc u)
      go_alone y false g k = under_new x y thing state.names false g ∙ h.alone y (sym (ap has_thing (entry_new s x y e f false g)) ∙ k)

  pub new_extends : (s : Scope N) (state : State N) (x : N) (thing : Thing) → entry s x ≡ None → Extends s state (with_new x thing state)
  new_extends s state x thing h = record { news = x ∷ []; keys = refl; new = (h, tt) }

  -- ---- names that change

  pub under_changed : {A : Type 0} (x : N) (a : A) (es : List (N × A)) (b : A) → under same x es ≡ Some b → under same x (changed same x a es) ≡ Some a
  under_changed x a [] b h = cc
  under_changed {A = A} x a (e ∷ es) b h = go (same e.0 x) refl h (under_changed x a es b)
    where
      go : (q : Bool) → same e.0 x ≡ q → (if q then Some e.1 else under same x es) ≡ Some b → (under same x es ≡ Some b → under same x (changed same x a es) ≡ Some a) → under same x (if q then (x, a) ∷ es else e ∷ changed same x a es) ≡ Some a
      go true g h rest = under_new x x a es true (subst (λ z. same z x ≡ true) (words.same e.0 x g) g)
      go false g h rest = ap (λ b. if b then Some e.1 else under same x (changed same x a es)) g ∙ rest h

  pub under_others : {A : Type 0} (x y : N) (a : A) (es : List (N × A)) → same x y ≡ false → under same y (changed same x a es) ≡ under same y es
  under_others x y a [] h = refl
  under_others x y a (e ∷ es) h = go (same e.0 x) refl (under_others x y a es h)
    where
      go : (q : Bool) → same e.0 x ≡ q → under same y (changed same x a es) ≡ under same y es → under same y (if q then (x, a) ∷ es else e ∷ changed same x a es) ≡ under same y (e ∷ es)
      go true g rest = ap (λ b. if b then Some a else under same y es) h ∙ sym (ap (λ b. if b then Some e.1 else under same y es) (subst (λ z. same z y ≡ false) (sym (words.same e.0 x g)) h))
      go false g rest = ap (λ o. if same e.0 y then Some e.1 else o) rest

  keys_changed : {A : Type 0} (x : N) (a : A) (es : List (N × A)) → keys (changed same x a es) ≡ keys es
  keys_changed x a [] = refl
  keys_changed x a (e ∷ es) = go (same e.0 x) refl (keys_changed x a es)
    where
      go : (q : Bool) → same e.0 x ≡ q → keys (changed same x a es) ≡ keys es → keys (if q then (x, a) ∷ es else e ∷ changed same x a es) ≡ e.0 ∷ keys es
      go true g rest = ap (λ z. z ∷ keys es) (sym (words.same e.0 x g))
      go false g rest = ap (λ l. e.0 ∷ l) rest

  -- a visible name that changes keeps its entry
  abbrev in_place : N → Thing → State N → State N
  in_place x thing state = record state { names = changed same x thing state.names }

  pub with_name_known : (x : N) (thing old : Thing) (state : State N) → thing_named world state.names x ≡ Some old → with_name world x thing state ≡ in_place x thing state
  with_name_known x thing old state h = ap (λ o. if is_some o then in_place x thing state else with_new x thing state) h

  pub with_name_new : (x : N) (thing : Thing) (state : State N) → thing_named world state.names x ≡ None → with_name world x thing state ≡ with_new x thing state
  with_name_new x thing state h = ap (λ o. if is_some o then in_place x thing state else with_new x thing state) h

  changed_is : (s : Scope N) (state : State N) (x : N) (e : Entry) (thing old : Thing) → StateIs world s state → entry s x ≡ Some e → IsNamed e → thing_named world state.names x ≡ Some old → ThingFits world e (Some thing) → StateIs world s (in_place x thing state)
  changed_is s state x e thing old h k named o fit = record {
    fits = record {
      store = h.fits.store;
      setting = h.fits.setting;
      named = λ y d r. go_named y d (same x y) refl r;
      accum = λ a j attached r. h.fits.accum a j attached r;
    };
    alone = λ y r. go_alone y (same x y) refl r;
  }
    where
      go_named : (y : N) (d : Entry) (q : Bool) → same x y ≡ q → entry s y ≡ Some d → ThingFits world d (thing_named world (changed same x thing state.names) y)
      go_named y d true g r =
          let u = words.same x y g in let v : entry s x ≡ Some d = subst (λ z. entry s z ≡ Some d) (sym u) r in let w : e ≡ d = cc in
          subst (λ z. ThingFits world d (thing_named world (changed same x thing state.names) z)) u (subst (ThingFits world d) (sym (under_changed x thing state.names old o)) (subst (λ d. ThingFits world d (Some thing)) w fit))
      go_named y d false g r = subst (ThingFits world d) (sym (under_others x y thing state.names g)) (h.fits.named y d r)

      go_alone : (y : N) (q : Bool) → same x y ≡ q → has_thing (entry s y) ≡ false → thing_named world (changed same x thing state.names) y ≡ None
      go_alone y true g r = let u = words.same x y g in let v : has_thing (entry s x) ≡ false = subst (λ z. has_thing (entry s z) ≡ false) (sym u) r in let w : true ≡ false = sym named ∙ sym (ap has_thing k) ∙ v in absurd (cc w)
      go_alone y false g r = under_others x y thing state.names g ∙ h.alone y r

  -- an assignment to a name that is visible
  pub assigned_behind : (s : Scope N) (state : State N) (x : N) (e : Entry) (thing old : Thing) → StateIs world s state → entry s x ≡ Some e → IsNamed e → thing_named world state.names x ≡ Some old → ThingFits world e (Some thing) → Behind s s state (with_name world x thing state)
  assigned_behind s state x e thing old h k named o fit =
      subst (Behind s s state) (sym (with_name_known x thing old state o)) (record { is = changed_is s state x e thing old h k named o fit; extends = record { news = []; keys = keys_changed x thing state.names; new = tt } })

  -- a name that comes into view
  pub new_behind : (s : Scope N) (state : State N) (x : N) (e : Entry) (thing : Thing) → StateIs world s state → entry s x ≡ None → IsNamed e → ThingFits world e (Some thing) → Behind s (with_entry x e s) state (with_new x thing state)
  new_behind s state x e thing h k named fit = record { is = new_is s state x e thing h named fit; extends = new_extends s state x thing k }

  -- one that is assigned when it isn't visible
  pub declared_behind : (s : Scope N) (state : State N) (x : N) (e : Entry) (thing : Thing) → StateIs world s state → entry s x ≡ None → IsNamed e → ThingFits world e (Some thing) → Behind s (with_entry x e s) state (with_name world x thing state)
  declared_behind s state x e thing h k named fit = subst (Behind s (with_entry x e s) state) (sym (with_name_new x thing state (h.alone x (ap has_thing k)))) (new_behind s state x e thing h k named fit)

  pub behind_then : (s t u : Scope N) (a b c : State N) → Grows s t → Behind s t a b → Behind t u b c → Behind s u a c
  behind_then s t u a b c g h k = record { is = k.is; extends = extends_then s t a b c g h.extends k.extends }

  pub behind_same : (s : Scope N) (a : State N) → StateIs world s a → Behind s s a a
  behind_same s a h = record { is = h; extends = extends_same s a }

  -- ---- names of a body, which end with it

  -- a name denotes the same after other names before it are dropped
  under_dropped : {A : Type 0} (y : N) (news : List N) (rest : List N) (es : List (N × A)) → keys es ≡ news ++ rest → AllOf (λ x. same x y ≡ false) news → under same y (drop (length news) es) ≡ under same y es
  under_dropped y [] rest es h k = refl
  under_dropped y (n ∷ news) rest [] h k = cc
  under_dropped y (n ∷ news) rest (e ∷ es) h k =
      let u : e.0 ≡ n = cc in let v : keys es ≡ news ++ rest = cc in
      under_dropped y news rest es v k.1 ∙ sym (ap (λ b. if b then Some e.1 else under same y es) (subst (λ z. same z y ≡ false) (sym u) k.0))

  keys_dropped : {A : Type 0} (news : List N) (rest : List N) (es : List (N × A)) → keys es ≡ news ++ rest → keys (drop (length news) es) ≡ rest
  keys_dropped [] rest es h = h
  keys_dropped (n ∷ news) rest [] h = cc
  keys_dropped (n ∷ news) rest (e ∷ es) h = let v : keys es ≡ news ++ rest = cc in keys_dropped news rest es v

  keys_length : {A B : Type 0} (news : List N) (es : List (N × A)) (ds : List (N × B)) → keys es ≡ news ++ keys ds → length es ≡ length news + length ds
  keys_length [] [] [] h = refl
  keys_length [] (e ∷ es) (d ∷ ds) h = let v : keys es ≡ keys ds = cc in let r = keys_length [] es ds v in omega (arith, r)
  keys_length [] [] (d ∷ ds) h = cc
  keys_length [] (e ∷ es) [] h = cc
  keys_length (n ∷ news) [] ds h = cc
  keys_length (n ∷ news) (e ∷ es) ds h = let v : keys es ≡ news ++ keys ds = cc in let r = keys_length news es ds v in omega (arith, r)

  -- new names are no visible ones
  new_others : (s : Scope N) (y : N) (d : Entry) (news : List N) → entry s y ≡ Some d → AllOf (λ x. entry s x ≡ None) news → AllOf (λ x. same x y ≡ false) news
  new_others s y d news h k = all_with (λ x. entry s x ≡ None) (λ x. same x y ≡ false) news (λ x n. go x n (same x y) refl) k
    where
      go : (x : N) → entry s x ≡ None → (q : Bool) → same x y ≡ q → same x y ≡ false
      go x n true g = let u = words.same x y g in let v : entry s y ≡ None = subst (λ z. entry s z ≡ None) u n in cc
      go x n false g = g

  -- if the keys are the same, the same names are missing
  missing : {A B : Type 0} (y : N) (es : List (N × A)) (ds : List (N × B)) → keys es ≡ keys ds → under same y ds ≡ None → under same y es ≡ None
  missing y [] ds h k = refl
  missing y (e ∷ es) [] h k = cc
  missing {A = A} {B = B} y (e ∷ es) (d ∷ ds) h k = let u : e.0 ≡ d.0 = cc in let v : keys es ≡ keys ds = cc in go (same d.0 y) refl u k (missing y es ds v)
    where
      go : (q : Bool) → same d.0 y ≡ q → e.0 ≡ d.0 → (if q then Some d.1 else under same y ds) ≡ None → (under same y ds ≡ None → under same y es ≡ None) → under same y (e ∷ es) ≡ None
      go true g u k rest = cc
      go false g u k rest = ap (λ b. if b then Some e.1 else under same y es) (ap (λ z. same z y) u ∙ g) ∙ rest k

  pub body_ends : (s t : Scope N) (before after : State N) → Grows s t → StateIs world s before → Behind s t before after → Behind s s before (without_new before after)
  body_ends s t before after g i h = record {
    is = record {
      fits = record {
        store = i.fits.store;
        setting = i.fits.setting;
        named = λ y d k. subst (ThingFits world d) (sym (found y d k)) (h.is.fits.named y d (g.kept y d k));
        accum = λ a j attached k. h.is.fits.accum a j attached (g.kept a (Accumulator j attached) k);
      };
      alone = λ y k. none y k;
    };
    extends = record { news = []; keys = ap (λ n. keys (drop n after.names)) count ∙ keys_dropped h.extends.news (keys before.names) after.names h.extends.keys; new = tt };
  }
    where
      count : length after.names - length before.names ≡ length h.extends.news
      count = let l = keys_length h.extends.news after.names before.names h.extends.keys in omega (arith, l)

      found : (y : N) (d : Entry) → entry s y ≡ Some d → thing_named world (without_new before after).names y ≡ thing_named world after.names y
      found y d k = ap (λ n. under same y (drop n after.names)) count ∙ under_dropped y h.extends.news (keys before.names) after.names h.extends.keys (new_others s y d h.extends.news k h.extends.new)

      none : (y : N) → has_thing (entry s y) ≡ false → thing_named world (without_new before after).names y ≡ None
      none y k = missing y (without_new before after).names before.names (ap (λ n. keys (drop n after.names)) count ∙ keys_dropped h.extends.news (keys before.names) after.names h.extends.keys) (i.alone y k)
