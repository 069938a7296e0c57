-- The lookup data of a name table: what it finds, and that it stays correct when a name is added or the last one
-- removed.
use Rattle.std.proofs.Common.{ℕ, zero, suc, ◌+◌, ◌<◌, ◌≤◌, ◌≡◌, Bool, true, false, cond, List, [], ◌∷◌, ◌++◌, reverse, length, get_or, map, Option, Some, None, refl, ap, sym, ◌∙◌, arith}
use Rattle.std.specs.BTreeMap.{BTreeMap, get_by_text}
use Rattle.std.specs.Map.{update}
use Rattle.std.specs.Option.{option_map, unwrap_or, IsSome}
use Rattle.std.specs.Str.{bytes_eq}
use Rattle.std.specs.Prelude.{String}
use Rattle.std.proofs.lemmas.Slice.Eq.{bytes_eq-Decides}
use Rattle.std.proofs.lemmas.List.{length-map, length-reverse, length_push, reverse-append, reverse-reverse, get_or_append_left, get_or_push}
use Rattle.gq_rules_typing.specs.Statements.{Bytes}
use Rattle.gq_rules_typing.specs.Words.{under}
use Rattle.gq_scope.specs.NameTables.{newest_first, last_of, hidden_by, row_of, IsKept}

-- ---- the lookup of a name

low_last : (ns : List Bytes) (name : Bytes) → last_of ns name ≤ length ns
low_last [] name = omega arith
low_last (n ∷ ns) name = either (bytes_eq n name) (low_last ns name)
  where
    either : (b : Bool) → last_of ns name ≤ length ns → cond b (suc (length ns)) (last_of ns name) ≤ suc (length ns)
    either true low = omega arith
    either false low = omega arith

-- here the rows are in reverse order, the last one first
nothing_under : {A : Type 0} (name : Bytes) (rs : List (Bytes × A)) → last_of (map (λ r. r.0) rs) name ≡ 0 → under bytes_eq name rs ≡ None
nothing_under name [] is = refl
nothing_under {A = A} name (r ∷ rs) is = either (bytes_eq r.0 name) (nothing_under name rs) is
  where
    either : (b : Bool) → (last_of (map (λ (r : Bytes × A). r.0) rs) name ≡ 0 → under bytes_eq name rs ≡ None)
        → cond b (suc (length (map (λ (r : Bytes × A). r.0) rs))) (last_of (map (λ r. r.0) rs) name) ≡ 0 → cond b (Some r.1) (under bytes_eq name rs) ≡ None
    either true rest is = absurd (omega arith)
    either false rest is = rest is

something_under : {A : Type 0} (name : Bytes) (rs : List (Bytes × A)) (n : ℕ) (d : Bytes × A) → last_of (map (λ r. r.0) rs) name ≡ suc n
    → under bytes_eq name rs ≡ Some (get_or (reverse rs) n d).1
something_under name [] n d is = absurd (omega arith)
something_under {A = A} name (r ∷ rs) n d is = either (bytes_eq r.0 name) (something_under name rs n d) is
  where
    turned : reverse (r ∷ rs) ≡ reverse rs ++ r ∷ []
    turned = reverse-append (r ∷ []) rs

    either : (b : Bool) → (last_of (map (λ (r : Bytes × A). r.0) rs) name ≡ suc n → under bytes_eq name rs ≡ Some (get_or (reverse rs) n d).1)
        → cond b (suc (length (map (λ (r : Bytes × A). r.0) rs))) (last_of (map (λ r. r.0) rs) name) ≡ suc n
        → cond b (Some r.1) (under bytes_eq name rs) ≡ Some (get_or (reverse (r ∷ rs)) n d).1
    either true rest is =
        let last : length (reverse rs) ≡ n = omega (arith, length-reverse rs, length-map rs (λ (r : Bytes × A). r.0)) in
        ap (λ (x : Bytes × A). Some x.1) (sym (get_or_push (reverse rs) r d n last) ∙ ap (λ xs. get_or xs n d) (sym turned))
    either false rest is =
        let low : n < length (reverse rs) = omega (arith, length-reverse rs, length-map rs (λ (r : Bytes × A). r.0), low_last (map (λ (r : Bytes × A). r.0) rs) name) in
        rest is
        ∙ ap (λ (x : Bytes × A). Some x.1) (sym (get_or_append_left (reverse rs) (r ∷ []) d n low) ∙ ap (λ xs. get_or xs n d) (sym turned))

-- mapping the values maps the value that is found
pub under_map : {A B : Type 0} (f : A → B) (name : Bytes) (rs : List (Bytes × A))
    → option_map f (under bytes_eq name rs) ≡ under bytes_eq name (map (λ r. (r.0, f r.1)) rs)
under_map f name [] = refl
under_map {A = A} {B = B} f name (r ∷ rs) = step (bytes_eq r.0 name) (under_map f name rs)
  where
    step : (b : Bool) → option_map f (under bytes_eq name rs) ≡ under bytes_eq name (map (λ r. (r.0, f r.1)) rs)
        → option_map f (cond b (Some r.1) (under bytes_eq name rs)) ≡ cond b (Some (f r.1)) (under bytes_eq name (map (λ r. (r.0, f r.1)) rs))
    step true same = refl
    step false same = same

-- ---- a name added or removed

module _ {A Y : Type 0} (rows : List (Bytes × A)) (hidden : List ℕ) (last : BTreeMap (String Y) ℕ) where
  long : length (newest_first rows) ≡ length rows
  long = length-map (reverse rows) (λ (r : Bytes × A). r.0) ∙ length-reverse rows

  pub row_low : (name : Bytes) → IsKept rows hidden last → row_of last name ≤ length rows
  row_low name kept = omega (arith, kept.ended name, low_last (newest_first rows) name, long)

  pub none_found : (name : Bytes) → IsKept rows hidden last → row_of last name ≡ 0 → None ≡ under bytes_eq name (reverse rows)
  none_found name kept is = sym (nothing_under name (reverse rows) (sym (kept.ended name) ∙ is))

  pub row_found : (name : Bytes) (n : ℕ) (d : Bytes × A) → IsKept rows hidden last → row_of last name ≡ suc n
      → Some (get_or rows n d).1 ≡ under bytes_eq name (reverse rows)
  row_found name n d kept is =
      ap (λ xs. Some (get_or xs n d).1) (sym (reverse-reverse rows)) ∙ sym (something_under name (reverse rows) n d (sym (kept.ended name) ∙ is))

  -- the table with one more name, whose row becomes the last of that name
  module _ (e : Bytes × A) (h : ℕ) (other : BTreeMap (String Y) ℕ) where
    newest : newest_first (rows ++ e ∷ []) ≡ e.0 ∷ newest_first rows
    newest = ap (map (λ (r : Bytes × A). r.0)) (reverse-append rows (e ∷ []))

    -- the tree maps the name's bytes to the new row; `found` is the row that it had before
    module _ (key : Bytes) (found : Option ℕ) (row : ℕ) (key_is : key ≡ e.0) (row_is : row ≡ suc (length rows)) where
      pub kept_push : found ≡ get_by_text last key → h ≡ unwrap_or found 0
          → ((name : Bytes) → get_by_text other name ≡ update bytes_eq (get_by_text last) key (Some row) name)
          → length rows + 1 < 4294967296 → IsKept rows hidden last → IsKept (rows ++ e ∷ []) (hidden ++ h ∷ []) other
      kept_push found_is hides after few kept = record {
        linked = reverse-append hidden (h ∷ []) ∙ ap (λ hs. h ∷ hs) kept.linked ∙ ap (λ b. b ∷ hidden_by (newest_first rows)) hidden_is ∙ ap hidden_by (sym newest);
        ended = λ name. ap (λ o. unwrap_or o 0) (after name) ∙ either name (bytes_eq key name) (kept.ended name)
            ∙ ap (λ k. cond (bytes_eq k name) (suc (length (newest_first rows))) (last_of (newest_first rows) name)) key_is ∙ ap (λ ns. last_of ns name) (sym newest);
        few = omega (arith, length_push rows e);
      }
        where
          hidden_is : h ≡ last_of (newest_first rows) e.0
          hidden_is = hides ∙ ap (λ o. unwrap_or o 0) found_is ∙ kept.ended key ∙ ap (last_of (newest_first rows)) key_is

          either : (name : Bytes) (b : Bool) → row_of last name ≡ last_of (newest_first rows) name
              → unwrap_or (cond b (Some row) (get_by_text last name)) 0 ≡ cond b (suc (length (newest_first rows))) (last_of (newest_first rows) name)
          either name true is = row_is ∙ ap suc (sym long)
          either name false is = is

    pub kept_pop : IsKept (rows ++ e ∷ []) (hidden ++ h ∷ []) other
        → ((name : Bytes) → get_by_text last name ≡ update bytes_eq (get_by_text other) e.0 (Some h) name) → IsKept rows hidden last
    kept_pop kept after = record {
      linked = rest;
      ended = λ name. ap (λ o. unwrap_or o 0) (after name) ∙ either name (bytes_eq e.0 name) ((bytes_eq-Decides e.0 name).0) (kept.ended name ∙ ap (λ ns. last_of ns name) newest);
      few = omega (arith, kept.few, length_push rows e);
    }
      where
        all : h ∷ reverse hidden ≡ last_of (newest_first rows) e.0 ∷ hidden_by (newest_first rows)
        all = sym (reverse-append hidden (h ∷ [])) ∙ kept.linked ∙ ap hidden_by newest

        rest : reverse hidden ≡ hidden_by (newest_first rows)
        rest = cc (all)

        first : h ≡ last_of (newest_first rows) e.0
        first = cc (all)

        either : (name : Bytes) (b : Bool) → (b ≡ true → e.0 ≡ name) → row_of other name ≡ cond b (suc (length (newest_first rows))) (last_of (newest_first rows) name)
            → unwrap_or (cond b (Some h) (get_by_text other name)) 0 ≡ last_of (newest_first rows) name
        either name true same is = first ∙ ap (last_of (newest_first rows)) (same refl)
        either name false same is = is

    -- the removed name is in the tree
    pub kept_there : IsKept (rows ++ e ∷ []) (hidden ++ h ∷ []) other → IsSome (get_by_text other e.0)
    kept_there kept = some_of (get_by_text other e.0) (length (newest_first rows)) (kept.ended e.0 ∙ ap (λ ns. last_of ns e.0) newest
        ∙ ap (λ b. cond b (suc (length (newest_first rows))) (last_of (newest_first rows) e.0)) ((bytes_eq-Decides e.0 e.0).1 refl))
      where
        some_of : (found : Option ℕ) (n : ℕ) → unwrap_or found 0 ≡ suc n → IsSome found
        some_of None n is = absurd (omega arith)
        some_of (Some m) n is = refl
