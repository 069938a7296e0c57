-- The first n elements of a sorted list.
use Rattle.std.proofs.Common.{◌≡◌, ℕ, zero, suc, true, false, List, [], ◌∷◌, ◌++◌, take, Ordering, Less, Equal, Greater, refl, sym, ap, ◌∙◌}
use Rattle.std.specs.Ordering.{is_gt, ordering_reverse}
use Rattle.gq_accum_laws.specs.Gather.{into, choose, put, sorted}
use Rattle.gq_accum_laws.proofs.Shuffles.{swap_into, into-append}
use Rattle.gq_accum_laws.proofs.GatherLaws.{IsLinear, put_commutes}

module _ {A : Type 0} (cmp : A → A → Ordering) (linear : IsLinear cmp) where
  abbrev add : A → List A → List A
  add = put cmp true

  stays : (n : ℕ) (z : A) (zs : List A) → take n (z ∷ take n zs) ≡ take n (z ∷ zs)
  stays zero z zs = refl
  stays (suc n) z zs = ap (λ l. z ∷ l) (cut_twice n zs)
    where
      cut_twice : (n : ℕ) (zs : List A) → take n (take (suc n) zs) ≡ take n zs
      cut_twice zero zs = refl
      cut_twice (suc n) [] = refl
      cut_twice (suc n) (z ∷ zs) = ap (λ l. z ∷ l) (cut_twice n zs)

  take_add : (n : ℕ) (x : A) (zs : List A) → take n (add x (take n zs)) ≡ take n (add x zs)
  take_add zero x zs = refl
  take_add (suc n) x [] = refl
  take_add (suc n) x (z ∷ zs) = by (cmp x z) (take_add n x zs)
    where
      by : (o : Ordering) → take n (add x (take n zs)) ≡ take n (add x zs) → take (suc n) (choose o (x ∷ z ∷ take n zs) (x ∷ z ∷ take n zs) (z ∷ add x (take n zs))) ≡ take (suc n) (choose o (x ∷ z ∷ zs) (x ∷ z ∷ zs) (z ∷ add x zs))
      by Less e = ap (λ l. x ∷ l) (stays n z zs)
      by Equal e = ap (λ l. x ∷ l) (stays n z zs)
      by Greater e = ap (λ l. z ∷ l) e

  take_into : (n : ℕ) (xs zs : List A) → take n (into add xs (take n zs)) ≡ take n (into add xs zs)
  take_into n [] zs = twice_cut n zs
    where
      twice_cut : (n : ℕ) (zs : List A) → take n (take n zs) ≡ take n zs
      twice_cut zero zs = refl
      twice_cut (suc n) [] = refl
      twice_cut (suc n) (z ∷ zs) = ap (λ l. z ∷ l) (twice_cut n zs)
  take_into n (x ∷ xs) zs = sym (take_add n x (into add xs (take n zs))) ∙ ap (λ l. take n (add x l)) (take_into n xs zs) ∙ take_add n x (into add xs zs)

  -- in order: no element is greater than the next
  abbrev Below : A → List A → Type 0
  Below x [] = Unit {0}
  Below x (y ∷ ys) = is_gt (cmp x y) ≡ false

  abbrev Rises : List A → Type 0
  Rises [] = Unit {0}
  Rises (x ∷ xs) = Below x xs × Rises xs

  rises_below : (x y : A) (zs : List A) → is_gt (cmp y x) ≡ false → Below y zs → Below y (add x zs)
  rises_below x y [] h k = h
  rises_below x y (z ∷ zs) h k = by (cmp x z)
    where
      by : (o : Ordering) → Below y (choose o (x ∷ z ∷ zs) (x ∷ z ∷ zs) (z ∷ add x zs))
      by Less = h
      by Equal = h
      by Greater = k

  not_gt : (o : Ordering) → o ≡ Greater → is_gt (ordering_reverse o) ≡ false
  not_gt o h = ap (λ p. is_gt (ordering_reverse p)) h

  rises_add : (x : A) (zs : List A) → Rises zs → Rises (add x zs)
  rises_add x [] h = (tt, tt)
  rises_add x (z ∷ zs) h = by (cmp x z) refl (rises_add x zs h.1)
    where
      by : (o : Ordering) → cmp x z ≡ o → Rises (add x zs) → Rises (choose o (x ∷ z ∷ zs) (x ∷ z ∷ zs) (z ∷ add x zs))
      by Less e k = (ap is_gt e, h)
      by Equal e k = (ap is_gt e, h)
      by Greater e k = (rises_below x z zs (ap is_gt (linear.total.antisymm z x) ∙ not_gt (cmp x z) e) h.0, k)

  rises_into : (xs : List A) → Rises (into add xs [])
  rises_into [] = tt
  rises_into (x ∷ xs) = rises_add x (into add xs []) (rises_into xs)

  below_take : (n : ℕ) (x : A) (zs : List A) → Below x zs → Below x (take n zs)
  below_take zero x zs h = tt
  below_take (suc n) x [] h = tt
  below_take (suc n) x (z ∷ zs) h = h

  rises_take : (n : ℕ) (zs : List A) → Rises zs → Rises (take n zs)
  rises_take zero zs h = tt
  rises_take (suc n) [] h = tt
  rises_take (suc n) (z ∷ zs) h = (below_take n z zs h.0, rises_take n zs h.1)

  first_stays : (x : A) (zs : List A) → Below x zs → add x zs ≡ x ∷ zs
  first_stays x [] h = refl
  first_stays x (z ∷ zs) h = by (cmp x z) refl
    where
      by : (o : Ordering) → cmp x z ≡ o → choose o (x ∷ z ∷ zs) (x ∷ z ∷ zs) (z ∷ add x zs) ≡ x ∷ z ∷ zs
      by Less e = refl
      by Equal e = refl
      by Greater e = absurd (let t : is_gt (cmp x z) ≡ true = ap is_gt e in cc)

  rising_stays : (zs : List A) → Rises zs → into add zs [] ≡ zs
  rising_stays [] h = refl
  rising_stays (z ∷ zs) h = ap (add z) (rising_stays zs h.1) ∙ first_stays z zs h.0

  top_stays : (n : ℕ) (xs : List A) → into add (take n (into add xs [])) [] ≡ take n (into add xs [])
  top_stays n xs = rising_stays (take n (into add xs [])) (rises_take n (into add xs []) (rises_into xs))

  -- the first n of the first n of the one list, and the other
  pub top_cut : (n : ℕ) (xs ys : List A) → take n (sorted cmp (take n (sorted cmp xs) ++ ys)) ≡ take n (sorted cmp (xs ++ ys))
  top_cut n xs ys =
      let commutes = put_commutes cmp linear true in
      let top : List A = take n (into add xs []) in
      ap (take n) (into-append add commutes top ys [] ∙ swap_into add commutes top ys [] ∙ ap (into add ys) (top_stays n xs))
      ∙ take_into n ys (into add xs [])
      ∙ ap (take n) (swap_into add commutes ys xs [] ∙ sym (into-append add commutes xs ys []))

  pub top_part : (n : ℕ) (xs ys : List A) → take n (sorted cmp (xs ++ take n (sorted cmp ys))) ≡ take n (sorted cmp (xs ++ ys))
  top_part n xs ys =
      let commutes = put_commutes cmp linear true in
      ap (take n) (into-append add commutes xs (take n (into add ys [])) [] ∙ ap (into add xs) (top_stays n ys))
      ∙ take_into n xs (into add ys [])
      ∙ ap (take n) (sym (into-append add commutes xs ys []))

  pub top_fresh : (n : ℕ) (xs : List A) → take n (sorted cmp (take n (sorted cmp xs))) ≡ take n (sorted cmp xs)
  top_fresh n xs = ap (take n) (top_stays n xs) ∙ take_into n [] (into add xs [])
