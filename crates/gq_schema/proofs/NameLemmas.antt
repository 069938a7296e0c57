-- Lemmas about names by their places.
use Rattle.std.proofs.Common.{inl, inr, ℕ, ◌+◌, ◌<◌, ◌≤◌, ◌≡◌, Bool, true, false, cond, List, [], ◌∷◌, ◌++◌, length, get_or, take, Option, Some, None, refl, ap, sym, subst, ◌∙◌, ◌↔◌, IsTrue, arith}
use Rattle.std.specs.BTreeMap.{BTreeMap, get_by_text}
use Rattle.std.specs.Map.{update}
use Rattle.std.specs.Str.{bytes_eq}
use Rattle.std.specs.Prelude.{String}
use Rattle.std.proofs.lemmas.Bool.{cases_lt}
use Rattle.std.proofs.lemmas.Slice.Eq.{bytes_eq-Decides}
use Rattle.std.proofs.lemmas.List.{get_or_append_left, get_or_push, get_or-take, length-take-le, length_push}
use Rattle.gq_base.proofs.Seeks.{seek_none, seek_found, nowhere}
use Rattle.gq_graph.specs.Catalog.{name_place}
use Rattle.gq_schema.specs.Kept.{name_at, HavePlaces}

missed : (b : Bool) → (b ≡ true → ⊥) → b ≡ false
missed true not = absurd (not refl)
missed false not = refl

module _ {Y : Type 0} (names : List (List ℕ)) (places : BTreeMap (String Y) ℕ) (kept : HavePlaces names places) (name : List ℕ) where
  only_place : (i : ℕ) → i < length names → bytes_eq name (name_at names i) ≡ true → get_by_text places name ≡ Some i
  only_place i low is = ap (get_by_text places) ((bytes_eq-Decides name (name_at names i)).0 is) ∙ kept i low

  found_there : (n : ℕ) → n < length names → name_at names n ≡ name → Some n ≡ name_place names name
  found_there n low at =
      sym (seek_found (bytes_eq name) [] n names low ((bytes_eq-Decides name (name_at names n)).1 (sym at))
      (λ i j before under a b. let same : Some i ≡ Some j = sym (only_place i (omega arith) a) ∙ only_place j under b in
      let equal : i ≡ j = cc in absurd (omega arith)))

  missing : ((n : ℕ) → get_by_text places name ≡ Some n → n < length names → name_at names n ≡ name → ⊥) → None ≡ name_place names name
  missing not =
      sym (seek_none (bytes_eq name) [] names
      (λ k low. missed (bytes_eq name (name_at names k)) (λ is. not k (only_place k low is) low (sym ((bytes_eq-Decides name (name_at names k)).0 is)))))

  -- the result of the lookup, and whether the name is stored at that place
  module _ (found : Option ℕ) (is : found ≡ get_by_text places name) where
    pub not_kept : found ≡ None → None ≡ name_place names name
    not_kept none = missing (λ n at low same. let e : Some n ≡ None = sym at ∙ sym is ∙ none in absurd (cc (e)))

    module _ (n : ℕ) (t : Bool) (stands : IsTrue t ↔ ((n < length names) × (name_at names n ≡ name))) where
      pub kept_there : t ≡ true → Some n ≡ name_place names name
      kept_there here = let at = stands.0 here in found_there n at.0 at.1

      pub kept_elsewhere : found ≡ Some n → t ≡ false → None ≡ name_place names name
      kept_elsewhere some gone = missing (λ m at low same.
          let e : Some m ≡ Some n = sym at ∙ sym is ∙ some in
          let m_is : m ≡ n = cc (e) in
          let here = stands.1 (subst (λ k. k < length names) m_is low, sym (ap (name_at names) m_is) ∙ same) in
          let both : true ≡ false = sym here ∙ gone in absurd (cc (both)))

pub places_cut : {Y : Type 0} (n : ℕ) (names : List (List ℕ)) (places : BTreeMap (String Y) ℕ) → n ≤ length names → HavePlaces names places → HavePlaces (take n names) places
places_cut n names places low kept = λ i there.
    let count : length (take n names) ≡ n = length-take-le n names low in
    ap (get_by_text places) (get_or-take n names i [] (omega (arith, count))) ∙ kept i (omega (arith, count))

-- one more name, added to the tree by an insertion
pub places_added : {Y : Type 0} (names : List (List ℕ)) (places more : BTreeMap (String Y) ℕ) (name key : List ℕ) (n : ℕ) → name_place names name ≡ None → key ≡ name
    → n ≡ length names → ((other : List ℕ) → get_by_text more other ≡ update bytes_eq (get_by_text places) key (Some n) other)
    → HavePlaces names places → HavePlaces (names ++ name ∷ []) more
places_added names places more name key n none key_is n_is put kept = λ i there. elim (cases_lt i (length names)) [
  | inl low ↦
      let front : name_at (names ++ name ∷ []) i ≡ name_at names i = get_or_append_left names (name ∷ []) [] i low in
      let other : bytes_eq name (name_at names i) ≡ false = missed (bytes_eq name (name_at names i)) (nowhere (bytes_eq name) [] names i none low) in
      ap (get_by_text more) front ∙ after (name_at names i)
      ∙ ap (λ b. cond b (Some (length names)) (get_by_text places (name_at names i))) other ∙ kept i low
  | inr over ↦
      let last : i ≡ length names = omega (arith, length_push names name) in
      let back : name_at (names ++ name ∷ []) i ≡ name = ap (name_at (names ++ name ∷ [])) last ∙ get_or_push names name [] (length names) refl in
      ap (get_by_text more) back ∙ after name
      ∙ ap (λ b. cond b (Some (length names)) (get_by_text places name)) ((bytes_eq-Decides name name).1 refl) ∙ ap Some (sym last)
]
  where
    after : (other : List ℕ) → get_by_text more other ≡ update bytes_eq (get_by_text places) name (Some (length names)) other
    after other = put other ∙ ap (λ k. update bytes_eq (get_by_text places) k (Some n) other) key_is
        ∙ ap (λ m. update bytes_eq (get_by_text places) name (Some m) other) n_is
