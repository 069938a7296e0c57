-- InstallLemmas: items that are changed one after another.
use Rattle.std.proofs.Common.{ℕ, zero, suc, ◌+◌, ◌<◌, ◌≤◌, ◌≡◌, List, [], ◌∷◌, length, map, slice_set, slice_index_or, refl, ap, ◌∙◌, arith}

module _ {A : Type 0} (f : A → A) where
  -- the first n are changed
  abbrev pub changed : ℕ → List A → List A
  changed zero xs = xs
  changed (suc n) [] = []
  changed (suc n) (x ∷ xs) = f x ∷ changed n xs

  one_more : (n : ℕ) (xs : List A) (d : A) → n < length xs → slice_set (changed n xs) n (f (slice_index_or (changed n xs) n d)) ≡ changed (suc n) xs
  one_more n [] d low = absurd (omega arith)
  one_more zero (x ∷ xs) d low = refl
  one_more (suc n) (x ∷ xs) d low = ap (λ ys. f x ∷ ys) (one_more n xs d (omega arith))

  next : (n : ℕ) (xs : List A) → changed (suc n) xs ≡ changed (n + 1) xs
  next n xs = let same : suc n ≡ n + 1 = omega arith in ap (λ (k : ℕ). changed k xs) same

  -- one more is changed in its place
  pub changed_next : (n : ℕ) (xs ys : List A) (d : A) → n < length xs → ys ≡ changed n xs → slice_set ys n (f (slice_index_or ys n d)) ≡ changed (n + 1) xs
  changed_next n xs ys d low is = ap (λ (zs : List A). slice_set zs n (f (slice_index_or zs n d))) is ∙ (one_more n xs d low ∙ next n xs)

  -- the same, if the item written there equals that
  pub changed_to : (n : ℕ) (xs ys : List A) (d y : A) → n < length xs → ys ≡ changed n xs → y ≡ f (slice_index_or ys n d) → slice_set ys n y ≡ changed (n + 1) xs
  changed_to n xs ys d y low is same = ap (slice_set ys n) same ∙ changed_next n xs ys d low is

  -- all are changed
  pub changed_all : (n : ℕ) (xs : List A) → length xs ≤ n → changed n xs ≡ map f xs
  changed_all zero [] most = refl
  changed_all zero (x ∷ xs) most = absurd (omega arith)
  changed_all (suc n) [] most = refl
  changed_all (suc n) (x ∷ xs) most = ap (λ ys. f x ∷ ys) (changed_all n xs (omega arith))
