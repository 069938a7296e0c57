-- PlaceLemmas: queries by the places of their names.
use Rattle.std.proofs.Common.{ℕ, zero, suc, ◌+◌, ◌<◌, ◌≤◌, ◌≡◌, Bool, true, false, cond, ◌||◌, List, [], ◌∷◌, ◌++◌, length, drop, get_or, Option, Some, None, refl, ap, sym, subst, ◌∙◌, ◌↔◌, IsTrue, arith}
use Rattle.std.specs.Prelude.{String, Result, Ok, Err, OnOk, OnErr, is_some, slice_get, slice_set, find, position, bytes_eq}
use Rattle.std.specs.List.{list_any, position_from, position_or_len}
use Rattle.std.specs.Map.{update}
use Rattle.std.specs.BTreeMap.{BTreeMap, get_by_text}
use Rattle.std.proofs.lemmas.Iterator.Adapters.{position_from-zero}
use Rattle.std.proofs.lemmas.List.Folds.{find_at}
use Rattle.std.proofs.lemmas.List.Quantifiers.{position-Some}
use Rattle.std.proofs.lemmas.List.{get_or_append_left, length_push, drop_more, drop_all}
use Rattle.std.proofs.lemmas.Grind.{common_steps}
use Rattle.std.proofs.lemmas.Option.{slice_get-get_or, get_or_from_slice_get}
use Rattle.std.proofs.lemmas.Slice.Eq.{bytes_eq-Decides}
use Rattle.gq_base.proofs.Seeks.{nowhere}
use Rattle.gq_graph.specs.Catalog.{name_place}
use Rattle.gq_schema.specs.Kept.{name_at, HavePlaces}
use Rattle.gq_schema.proofs.NameLemmas.{places_added}
use Rattle.gq_query_run.specs.Kept.{Kept}
use Rattle.gq_query_run.specs.Placed.{names_of, ArePlaced}
use Rattle.gq_query_run.specs.Queries.{is_named, installed_if, with_installed, all_installed}

missed : (b : Bool) → (b ≡ true → ⊥) → b ≡ false
missed true not = absurd (not refl)
missed false not = refl

some_inj : {A : Type 0} {a b : A} → ◌≡◌ {A = Option A} (Some a) (Some b) → a ≡ b
some_inj h = cc

-- ---- the first query with a name, among queries and among names

same_truth : (a b : Bool) → (a ≡ true → b ≡ true) → (b ≡ true → a ≡ true) → a ≡ b
same_truth true b f g = sym (f refl)
same_truth false true f g = g refl
same_truth false false f g = refl

turned : (a b : List ℕ) → bytes_eq a b ≡ bytes_eq b a
turned a b =
    same_truth (bytes_eq a b) (bytes_eq b a) (λ h. (bytes_eq-Decides b a).1 (sym ((bytes_eq-Decides a b).0 h)))
    (λ h. (bytes_eq-Decides a b).1 (sym ((bytes_eq-Decides b a).0 h)))

place_from : (name : List ℕ) (i : ℕ) (qs : List Kept) → position_from (is_named name) i qs ≡ position_from (bytes_eq name) i (names_of qs)
place_from name i [] = refl
place_from name i (q ∷ qs) =
    ap (λ b. cond b (Some i) (position_from (is_named name) (i + 1) qs)) (turned q.name name)
    ∙ ap (λ (r : Option ℕ). cond (bytes_eq name q.name) (Some i) r) (place_from name (i + 1) qs)

pub place_is : (name : List ℕ) (qs : List Kept) → position (is_named name) qs ≡ name_place (names_of qs) name
place_is name qs = position_from-zero (is_named name) qs ∙ place_from name 0 qs ∙ sym (position_from-zero (bytes_eq name) (names_of qs))

-- ---- what is at the first place that passes a test

module _ {X : Type 0} (p : X → Bool) where
  pub low_there : (xs : List X) (n : ℕ) → position p xs ≡ Some n → n < length xs
  low_there xs n e = let at : position_or_len p xs ≡ n = grind (arith, common_steps) in grind (arith, common_steps)

  pub found_at : (xs : List X) (n : ℕ) → position p xs ≡ Some n → slice_get xs n ≡ find p xs
  found_at xs n e = let at : position_or_len p xs ≡ n = grind (arith, common_steps) in ap (slice_get xs) (sym at) ∙ sym (find_at p xs)

  none_from : (i : ℕ) (xs : List X) → position_from p i xs ≡ None → None ≡ find p xs
  none_from i [] e = refl
  none_from i (x ∷ xs) e = go (p x) (position_from p (i + 1) xs) (find p xs) e (none_from (i + 1) xs)
    where
      go : (b : Bool) (r : Option ℕ) (f : Option X) → cond b (Some i) r ≡ None → (r ≡ None → None ≡ f) → None ≡ cond b (Some x) f
      go true r f e h = absurd (cc)
      go false r f e h = h e

  pub found_nowhere : (xs : List X) → position p xs ≡ None → None ≡ find p xs
  found_nowhere xs e = none_from 0 xs (sym (position_from-zero p xs) ∙ e)

  any_from : (i : ℕ) (xs : List X) → is_some (position_from p i xs) ≡ list_any p xs
  any_from i [] = refl
  any_from i (x ∷ xs) = go (p x) (position_from p (i + 1) xs) (list_any p xs) (any_from (i + 1) xs)
    where
      go : (b : Bool) (r : Option ℕ) (t : Bool) → is_some r ≡ t → is_some (cond b (Some i) r) ≡ (b || t)
      go true r t h = refl
      go false r t h = h

  pub any_is : (xs : List X) → is_some (position p xs) ≡ list_any p xs
  any_is xs = ap is_some (position_from-zero p xs) ∙ any_from 0 xs

-- ---- the name at an index

pub stands_there : (qs : List Kept) (n : ℕ) (q : Kept) (name : List ℕ) (t : Bool) → slice_get qs n ≡ Some q → t ≡ bytes_eq q.name name
    → IsTrue t ↔ ((n < length (names_of qs)) × (name_at (names_of qs) n ≡ name))
stands_there [] n q name t is same = absurd (cc)
stands_there (x ∷ xs) zero q name t is same =
    let x_is : x ≡ q = some_inj is in
    let name_is : x.name ≡ q.name = ap (λ (k : Kept). k.name) x_is in
    (λ h. (omega arith, name_is ∙ (bytes_eq-Decides q.name name).0 (sym same ∙ h)), λ h. same ∙ (bytes_eq-Decides q.name name).1 (sym name_is ∙ h.1))
stands_there (x ∷ xs) (suc n) q name t is same =
    let rest = stands_there xs n q name t is same in
    (λ h. (omega (arith, (rest.0 h).0), (rest.0 h).1), λ h. rest.1 (omega (arith, h.0), h.1))

pub stands_nowhere : (qs : List Kept) (n : ℕ) (name : List ℕ) → slice_get qs n ≡ None → IsTrue false ↔ ((n < length (names_of qs)) × (name_at (names_of qs) n ≡ name))
stands_nowhere [] n name is = (λ h. absurd (cc), λ h. absurd (omega (arith, h.0)))
stands_nowhere (x ∷ xs) zero name is = absurd (cc)
stands_nowhere (x ∷ xs) (suc n) name is = let rest = stands_nowhere xs n name is in (λ h. absurd (cc), λ h. rest.1 (omega (arith, h.0), h.1))

-- ---- the names after a change

same_names : (qs : List Kept) (n : ℕ) (old new : Kept) → slice_get qs n ≡ Some old → old.name ≡ new.name → names_of (slice_set qs n new) ≡ names_of qs
same_names [] n old new is same = absurd (cc)
same_names (x ∷ xs) zero old new is same =
    let x_is : x ≡ old = some_inj is in ap (λ (name : List ℕ). name ∷ names_of xs) (sym same ∙ ap (λ (k : Kept). k.name) (sym x_is))
same_names (x ∷ xs) (suc n) old new is same = ap (λ (ns : List (List ℕ)). x.name ∷ ns) (same_names xs n old new is same)

names_push : (qs : List Kept) (q : Kept) → names_of (qs ++ q ∷ []) ≡ names_of qs ++ q.name ∷ []
names_push [] q = refl
names_push (x ∷ xs) q = ap (λ (ns : List (List ℕ)). x.name ∷ ns) (names_push xs q)

length_names : (qs : List Kept) → length (names_of qs) ≡ length qs
length_names [] = refl
length_names (x ∷ xs) = ap suc (length_names xs)

names_all : (qs : List Kept) → names_of (all_installed qs) ≡ names_of qs
names_all [] = refl
names_all (x ∷ xs) = ap (λ (ns : List (List ℕ)). x.name ∷ ns) (names_all xs)

-- the query at the first place with a name has it
module _ (name : List ℕ) (qs : List Kept) (n : ℕ) (at : position (is_named name) qs ≡ Some n) where
  named_there : (q : Kept) → slice_get qs n ≡ Some q → q.name ≡ name
  named_there q is = (bytes_eq-Decides q.name name).0
      (ap (is_named name) (sym (get_or_from_slice_get qs n q q is)) ∙ (position-Some (is_named name) qs n q at).1)

module _ {Y : Type 0} (qs : List Kept) (places : BTreeMap (String Y) ℕ) (kept : ArePlaced qs places) where
  -- a query in the place of one with its name
  pub reinstalled : (n : ℕ) (old new : Kept) → slice_get qs n ≡ Some old → old.name ≡ new.name → ArePlaced (slice_set qs n new) places
  reinstalled n old new is same = subst (λ (ns : List (List ℕ)). HavePlaces ns places) (sym (same_names qs n old new is same)) kept

  pub replaced : (n : ℕ) (new : Kept) → position (is_named new.name) qs ≡ Some n → ArePlaced (slice_set qs n new) places
  replaced n new at =
      let is : slice_get qs n ≡ Some (get_or qs n new) = slice_get-get_or qs n new (position-Some (is_named new.name) qs n new at).0 in
      reinstalled n (get_or qs n new) new is (named_there new.name qs n at (get_or qs n new) is)

  pub all_placed : ArePlaced (all_installed qs) places
  all_placed = subst (λ (ns : List (List ℕ)). HavePlaces ns places) (sym (names_all qs)) kept

  -- one more query, whose name was added to the tree
  module _ (more : BTreeMap (String Y) ℕ) (q : Kept) (key : List ℕ) (n : ℕ) (new : position (is_named q.name) qs ≡ None) (key_is : key ≡ q.name) (n_is : n ≡ length qs)
      (put : (other : List ℕ) → get_by_text more other ≡ update bytes_eq (get_by_text places) key (Some n) other) where
    added : HavePlaces (names_of qs ++ q.name ∷ []) more
    added = places_added (names_of qs) places more q.name key n (sym (place_is q.name qs) ∙ new) key_is (n_is ∙ sym (length_names qs)) put kept

    appended : ArePlaced (qs ++ q ∷ []) more
    appended = subst (λ (ns : List (List ℕ)). HavePlaces ns more) (sym (names_push qs q)) added

    -- the tree has the name, but the list not the query
    not_appended : ArePlaced qs more
    not_appended = λ i low. ap (get_by_text more) (sym (get_or_append_left (names_of qs) (q.name ∷ []) [] i low))
        ∙ added i (let longer : i < length (names_of qs ++ q.name ∷ []) = omega (arith, length_push (names_of qs) q.name) in longer)

    pub placed_either : {A E : Type 0} (now : List Kept) (result : Result A E) → OnOk result (now ≡ qs ++ q ∷ []) → OnErr result (now ≡ qs) → ArePlaced now more
    placed_either now (Ok done) is same = subst (λ (l : List Kept). ArePlaced l more) (sym is) appended
    placed_either now (Err fault) is same = subst (λ (l : List Kept). ArePlaced l more) (sym same) not_appended

  -- no two queries have one name
  alone : (n : ℕ) (q : Kept) → slice_get qs n ≡ Some q → (k : ℕ) → k < length (names_of qs) → name_at (names_of qs) k ≡ q.name → k ≡ n
  alone n q is k low same =
      let at = (stands_there qs n q q.name (bytes_eq q.name q.name) is refl).0 ((bytes_eq-Decides q.name q.name).1 refl) in
      some_inj (sym (kept k low) ∙ ap (get_by_text places) (same ∙ sym at.1) ∙ kept n at.0)

-- ---- INSTALL QUERY

unset : (b : Bool) → (b || false) ≡ b
unset true = refl
unset false = refl

set_already : (b : Bool) → (b || true) ≡ true
set_already true = refl
set_already false = refl

joined : (i b a : Bool) → (i || (b || false) || a) ≡ (i || (b || a))
joined true b a = refl
joined false true a = refl
joined false false a = refl

as_before : (q : Kept) → installed_if false q ≡ q
as_before q = ap (λ b. record q { installed = b }) (unset q.installed)

-- without a query of the name nothing changes
untouched : (name : List ℕ) (qs : List Kept) → ((k : ℕ) → k < length (names_of qs) → name_at (names_of qs) k ≡ name → ⊥) → with_installed (name ∷ []) qs ≡ qs
untouched name [] none = refl
untouched name (q ∷ qs) none =
    let differs : bytes_eq q.name name ≡ false = missed (bytes_eq q.name name) (λ is. none 0 (omega arith) ((bytes_eq-Decides q.name name).0 is)) in
    ap (λ b. installed_if (b || false) q ∷ with_installed (name ∷ []) qs) differs
    ∙ ap (λ (k : Kept). k ∷ with_installed (name ∷ []) qs) (as_before q)
    ∙ ap (λ (ks : List Kept). q ∷ ks) (untouched name qs (λ k low same. none (suc k) (omega (arith, low)) same))

-- the only query of the name is installed in its place
installs : (name : List ℕ) (qs : List Kept) (n : ℕ) (q : Kept) → slice_get qs n ≡ Some q → q.name ≡ name
    → ((k : ℕ) → k < length (names_of qs) → name_at (names_of qs) k ≡ name → k ≡ n) → slice_set qs n (record q { installed = true }) ≡ with_installed (name ∷ []) qs
installs name [] n q is named only = absurd (cc)
installs name (x ∷ xs) zero q is named only =
    let x_is : q ≡ x = sym (some_inj is) in
    let same : bytes_eq x.name name ≡ true = (bytes_eq-Decides x.name name).1 (ap (λ (k : Kept). k.name) (sym x_is) ∙ named) in
    ap (λ (k : Kept). record k { installed = true } ∷ xs) x_is
    ∙ ap (λ b. record x { installed = b } ∷ xs) (sym (set_already x.installed))
    ∙ ap (λ b. installed_if (b || false) x ∷ xs) (sym same)
    ∙ ap (λ (ks : List Kept). installed_if (bytes_eq x.name name || false) x ∷ ks)
    (sym (untouched name xs (λ k low at. let no_first : suc k ≡ 0 = only (suc k) (omega (arith, low)) at in absurd (omega (arith, no_first)))))
installs name (x ∷ xs) (suc n) q is named only =
    let differs : bytes_eq x.name name ≡ false =
    missed (bytes_eq x.name name) (λ same. let first : 0 ≡ suc n = only 0 (omega arith) ((bytes_eq-Decides x.name name).0 same) in absurd (omega (arith, first))) in
    ap (λ (ks : List Kept). x ∷ ks)
    (installs name xs n q is named (λ k low at. let next : suc k ≡ suc n = only (suc k) (omega (arith, low)) at in omega (arith, next)))
    ∙ ap (λ (k : Kept). k ∷ with_installed (name ∷ []) xs) (sym (as_before x))
    ∙ ap (λ b. installed_if (b || false) x ∷ with_installed (name ∷ []) xs) (sym differs)

pub installed_there : {Y : Type 0} (qs : List Kept) (places : BTreeMap (String Y) ℕ) (kept : ArePlaced qs places) (name : List ℕ) (n : ℕ) (q : Kept)
    → position (is_named name) qs ≡ Some n → slice_get qs n ≡ Some q → slice_set qs n (record q { installed = true }) ≡ with_installed (name ∷ []) qs
installed_there qs places kept name n q at is =
    let named = named_there name qs n at q is in
    installs name qs n q is named (λ k low same. alone qs places kept n q is k low (same ∙ sym named))

pub installed_nowhere : (name : List ℕ) (qs : List Kept) → position (is_named name) qs ≡ None → qs ≡ with_installed (name ∷ []) qs
installed_nowhere name qs none =
    sym (untouched name qs (λ k low same.
    nowhere (bytes_eq name) [] (names_of qs) k (sym (place_is name qs) ∙ none) low ((bytes_eq-Decides name (name_at (names_of qs) k)).1 (sym same))))

-- one name after another
pub none_more : (qs : List Kept) → with_installed [] qs ≡ qs
none_more [] = refl
none_more (q ∷ qs) = ap (λ (k : Kept). k ∷ with_installed [] qs) (as_before q) ∙ ap (λ (ks : List Kept). q ∷ ks) (none_more qs)

pub one_more : (name : List ℕ) (names : List (List ℕ)) (qs : List Kept) → with_installed names (with_installed (name ∷ []) qs) ≡ with_installed (name ∷ names) qs
one_more name names [] = refl
one_more name names (q ∷ qs) =
    ap (λ b. record q { installed = b } ∷ with_installed names (with_installed (name ∷ []) qs)) (joined q.installed (bytes_eq q.name name) (list_any (bytes_eq q.name) names))
    ∙ ap (λ (ks : List Kept). installed_if (list_any (bytes_eq q.name) (name ∷ names)) q ∷ ks) (one_more name names qs)

-- ---- a loop over names

pub install_turn : (names : List (List ℕ)) (i : ℕ) (name said : List ℕ) (qs new due : List Kept) → i < length names → name ≡ get_or names i name → said ≡ name
    → new ≡ with_installed (said ∷ []) qs → with_installed (drop i names) qs ≡ due → with_installed (drop (i + 1) names) new ≡ due
install_turn names i name said qs new due low at same is was =
    ap (with_installed (drop (i + 1) names)) (is ∙ ap (λ (n : List ℕ). with_installed (n ∷ []) qs) same) ∙ one_more name (drop (i + 1) names) qs
    ∙ ap (λ (ns : List (List ℕ)). with_installed ns qs) (sym (drop_more names i name low ∙ ap (λ (n : List ℕ). n ∷ drop (i + 1) names) (sym at))) ∙ was

pub install_end : (names : List (List ℕ)) (i : ℕ) (qs due : List Kept) → length names ≤ i → with_installed (drop i names) qs ≡ due → qs ≡ due
install_end names i qs due past was = sym (none_more qs) ∙ ap (λ (ns : List (List ℕ)). with_installed ns qs) (sym (drop_all i names past)) ∙ was

pub ruleset place_laws = (low_there, found_at, found_nowhere, any_is, stands_there, stands_nowhere, reinstalled, replaced, all_placed, installed_there, installed_nowhere)

pub ruleset turn_laws = (install_turn, install_end)
