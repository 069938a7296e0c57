-- ListLemmas: the concatenated results of several items: with one more item, without those that give nothing, and
-- their number.
use Rattle.std.proofs.Common.{ℕ, zero, suc, ◌+◌, ◌<◌, ◌≤◌, ◌≡◌, Bool, true, false, cond, List, [], ◌∷◌, ◌++◌, ◌&&◌, length, get_or, take, map, refl, ap, sym, ◌∙◌, arith, append-nil, length-append}
use Rattle.std.specs.List.{filter, flat_map}
use Rattle.std.proofs.lemmas.List.{append_assoc, take_more, map-append, length-map}
use Rattle.std.proofs.lemmas.List.Concat.{flat_map-append}
use Rattle.std.proofs.lemmas.List.Elements.{filter-append}

pub flat_map_more : {X Y : Type 0} (f : X → List Y) (xs : List X) (i : ℕ) (d : X) → i < length xs
    → flat_map f (take (i + 1) xs) ≡ flat_map f (take i xs) ++ f (get_or xs i d)
flat_map_more f xs i d h =
    ap (flat_map f) (take_more xs i d h) ∙ flat_map-append f (take i xs) (get_or xs i d ∷ [])
    ∙ ap (λ l. flat_map f (take i xs) ++ l) (append-nil (f (get_or xs i d)))

pub flat_map_same : {X Y : Type 0} (f g : X → List Y) → ((x : X) → f x ≡ g x) → (xs : List X) → flat_map f xs ≡ flat_map g xs
flat_map_same f g same [] = refl
flat_map_same f g same (x ∷ xs) = ap (λ l. l ++ flat_map f xs) (same x) ∙ ap (λ l. g x ++ l) (flat_map_same f g same xs)

pub flat_map_single : {X Y : Type 0} (f : X → Y) (xs : List X) → flat_map (λ x. f x ∷ []) xs ≡ map f xs
flat_map_single f [] = refl
flat_map_single f (x ∷ xs) = ap (λ l. f x ∷ l) (flat_map_single f xs)

-- items that give nothing may be left out
pub pruned : {X Y : Type 0} (f : X → List Y) (p : X → Bool) (xs : List X) → ((x : X) → p x ≡ false → f x ≡ []) → flat_map f (filter p xs) ≡ flat_map f xs
pruned f p [] none = refl
pruned {X} {Y} f p (x ∷ xs) none =
    elim (p x) as (λ b. p x ≡ b → flat_map f (cond b (x ∷ filter p xs) (filter p xs)) ≡ f x ++ flat_map f xs) [
      | true ↦ λ _. ap (λ l. f x ++ l) (pruned f p xs none)
      | false ↦ λ is. pruned f p xs none ∙ ap (λ l. l ++ flat_map f xs) (sym (none x is))
    ] refl

-- one test after another
pub filter_twice : {X : Type 0} (p q : X → Bool) (xs : List X) → filter p (filter q xs) ≡ filter (λ x. q x && p x) xs
filter_twice p q [] = refl
filter_twice {X} p q (x ∷ xs) =
    elim (q x) as (λ b. filter p (cond b (x ∷ filter q xs) (filter q xs)) ≡ cond (b && p x) (x ∷ filter (λ x. q x && p x) xs) (filter (λ x. q x && p x) xs)) [
      | true ↦ ap (λ l. cond (p x) (x ∷ l) l) (filter_twice p q xs)
      | false ↦ filter_twice p q xs
    ]

-- the results that pass for the items so far, and for one more
pub passed_more : {X Y : Type 0} (p : Y → Bool) (f : X → List Y) (xs : List X) (i : ℕ) (d : X) (before now later : List Y) → i < length xs
    → now ≡ before ++ filter p (flat_map f (take i xs)) → later ≡ now ++ filter p (f (get_or xs i d))
    → later ≡ before ++ filter p (flat_map f (take (i + 1) xs))
passed_more p f xs i d before now later h was is =
    is ∙ ap (λ l. l ++ filter p (f (get_or xs i d))) was
    ∙ append_assoc before (filter p (flat_map f (take i xs))) (filter p (f (get_or xs i d)))
    ∙ ap (λ l. before ++ l) (sym (ap (filter p) (flat_map_more f xs i d h) ∙ filter-append p (flat_map f (take i xs)) (f (get_or xs i d))))

-- the results listed for the items so far, and for one more
pub listed_more : {X Y Z : Type 0} (g : Y → Z) (f : X → List Y) (xs : List X) (i : ℕ) (d : X) (before now later : List Z) → i < length xs
    → now ≡ before ++ map g (flat_map f (take i xs)) → later ≡ now ++ map g (f (get_or xs i d))
    → later ≡ before ++ map g (flat_map f (take (i + 1) xs))
listed_more g f xs i d before now later h was is =
    is ∙ ap (λ l. l ++ map g (f (get_or xs i d))) was
    ∙ append_assoc before (map g (flat_map f (take i xs))) (map g (f (get_or xs i d)))
    ∙ ap (λ l. before ++ l) (sym (ap (map g) (flat_map_more f xs i d h) ∙ map-append g (flat_map f (take i xs)) (f (get_or xs i d))))

pub first_shorter : {X Y : Type 0} (f : X → List Y) (j : ℕ) (xs : List X) → length (flat_map f (take j xs)) ≤ length (flat_map f xs)
first_shorter f zero xs = omega arith
first_shorter f (suc j) [] = omega arith
first_shorter f (suc j) (x ∷ xs) =
    omega (arith, length-append (f x) (flat_map f (take j xs)), length-append (f x) (flat_map f xs), first_shorter f j xs)

-- if one more item gives too many, all do
pub too_many : {X Y Z : Type 0} (g : Y → Z) (f : X → List Y) (xs : List X) (i : ℕ) (d : X) (before now : List Z) (most : ℕ) → i < length xs
    → now ≡ before ++ map g (flat_map f (take i xs)) → most < length now + length (f (get_or xs i d))
    → most < length before + length (flat_map f xs)
too_many g f xs i d before now most h was more =
    omega (
      arith,
      more,
      ap length was,
      length-append before (map g (flat_map f (take i xs))),
      length-map (flat_map f (take i xs)) g,
      ap length (flat_map_more f xs i d h),
      length-append (flat_map f (take i xs)) (f (get_or xs i d)),
      first_shorter f (i + 1) xs,
    )
