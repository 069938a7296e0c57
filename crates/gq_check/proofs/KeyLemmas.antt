-- KeyLemmas: one more key.
use Rattle.std.proofs.Common.{◌≡◌, ◌∙◌, Bool, true, false, cond, ◌||◌, List, [], ◌∷◌, ◌++◌, map, reverse, refl, ap, sym}
use Rattle.std.specs.Borrow.{Bor}
use Rattle.std.specs.BTreeSet.{BTreeSet, UpdatesBy, contains_by}
use Rattle.std.specs.Cmp.Lexicographic.{slice_cmp}
use Rattle.std.specs.List.{list_any}
use Rattle.std.specs.Ordering.{nat_cmp}
use Rattle.std.specs.Str.{bytes_eq}
use Rattle.std.proofs.lemmas.List.{map_push, reverse-append}
use Rattle.std.proofs.lemmas.Map.Text.{is_eq-slice_cmp}
use Rattle.std.proofs.lemmas.Slice.Eq.{bytes_eq-Decides}
use Rattle.gq_rules_typing.specs.Statements.{Bytes}
use Rattle.gq_check.specs.Keyed.{newest_first, IsKnown}

pub newest_is : (given : List (Bor Bytes)) (key : Bor Bytes) → newest_first (given ++ key ∷ []) ≡ key.now ∷ newest_first given
newest_is given key = ap reverse (map_push (λ (k : Bor Bytes). k.now) given key) ∙ reverse-append (map (λ (k : Bor Bytes). k.now) given) (key.now ∷ [])

swapped : (a b : Bool) (x y : Bytes) → (a ≡ true → x ≡ y) → (x ≡ y → b ≡ true) → (b ≡ true → y ≡ x) → (y ≡ x → a ≡ true) → a ≡ b
swapped true true x y p q r s = refl
swapped true false x y p q r s = absurd (cc (q (p refl)))
swapped false true x y p q r s = absurd (cc (s (r refl)))
swapped false false x y p q r s = refl

pub known_more : (given : List (Bor Bytes)) (known more : BTreeSet (Bor Bytes)) (key : Bor Bytes)
    → UpdatesBy (λ x y. slice_cmp nat_cmp x.now y.now) (λ k. slice_cmp nat_cmp key.now k.now) known more true
    → IsKnown (newest_first given) known → IsKnown (newest_first (given ++ key ∷ [])) more
known_more given known more key after is = λ other.
    after.0 (record { ref_ptr = (0, 0); now = other })
    ∙ ap (λ b. cond b true (contains_by (λ (k : Bor Bytes). slice_cmp nat_cmp other k.now) known)) (is_eq-slice_cmp key.now other ∙ same other)
    ∙ either other (bytes_eq other key.now) (is other) ∙ ap (list_any (bytes_eq other)) (sym (newest_is given key))
  where
    same : (other : Bytes) → bytes_eq key.now other ≡ bytes_eq other key.now
    same other =
        let a = bytes_eq-Decides key.now other in
        let b = bytes_eq-Decides other key.now in
        swapped (bytes_eq key.now other) (bytes_eq other key.now) key.now other a.0 (λ h. b.1 (sym h)) b.0 (λ h. a.1 (sym h))

    either : (other : Bytes) (b : Bool) → contains_by (λ (k : Bor Bytes). slice_cmp nat_cmp other k.now) known ≡ list_any (bytes_eq other) (newest_first given)
        → cond b true (contains_by (λ (k : Bor Bytes). slice_cmp nat_cmp other k.now) known) ≡ (b || list_any (bytes_eq other) (newest_first given))
    either other true is = refl
    either other false is = is
