-- Beginnings: beginnings of one list, of which the shorter begins the longer.
use Rattle.std.proofs.Common.{◌≡◌, suc, ◌≤◌, List, [], ◌∷◌, ◌++◌, length, refl, ap, sym, ◌∙◌, arith, append_assoc, length-append}
use Rattle.std.proofs.lemmas.List.{append-nil}
use mathlib.Core.List.{IsPrefix}

module _ {A : Type 0} where
  -- each list begins with itself
  pub prefix_self : (xs : List A) → IsPrefix xs xs
  prefix_self xs = ([], append-nil xs)

  pub prefix_trans : (xs ys zs : List A) → IsPrefix xs ys → IsPrefix ys zs → IsPrefix xs zs
  prefix_trans xs ys zs p q = (p.0 ++ q.0, sym (append_assoc xs p.0 q.0) ∙ (ap (λ w. w ++ q.0) p.1 ∙ q.1))

  -- of two beginnings of one list the shorter begins the longer
  pub prefix_shorter : (xs ys zs : List A) → IsPrefix xs zs → IsPrefix ys zs → length xs ≤ length ys → IsPrefix xs ys
  prefix_shorter [] ys zs p q le = (ys, refl)
  prefix_shorter (x ∷ xs) [] zs p q le = absurd (omega arith)
  prefix_shorter (x ∷ xs) (y ∷ ys) [] p q le = absurd (cc (p.1))
  prefix_shorter (x ∷ xs) (y ∷ ys) (z ∷ zs) p q le =
      let heads : x ≡ y = cc (p.1, q.1) in
      let rest = prefix_shorter xs ys zs (p.0, cc (p.1)) (q.0, cc (q.1)) (omega arith) in
      (rest.0, cc (heads, rest.1))

  -- a beginning as long as the whole is the whole
  pub prefix_whole : (xs ys : List A) → IsPrefix xs ys → length ys ≤ length xs → xs ≡ ys
  prefix_whole [] [] p le = refl
  prefix_whole [] (y ∷ ys) p le = absurd (omega arith)
  prefix_whole (x ∷ xs) [] p le = absurd (cc (p.1))
  prefix_whole (x ∷ xs) (y ∷ ys) p le =
      let rest = prefix_whole xs ys (p.0, cc (p.1)) (omega arith) in cc (p.1, rest)

  -- more behind
  pub prefix_more : (xs ys : List A) → IsPrefix xs (xs ++ ys)
  prefix_more xs ys = (ys, refl)

  -- what goes one beyond a beginning and ends with x is that beginning and x
  pub next_is : (before rows front : List A) (x : A) → rows ≡ before ++ x ∷ [] → IsPrefix front rows → length rows ≡ suc (length front) → rows ≡ front ++ x ∷ []
  next_is before rows front x ends begins long =
      let same_length : length front ≤ length before = omega (arith, long, ap length ends, length-append before (x ∷ [])) in
      let other_length : length before ≤ length front = omega (arith, long, ap length ends, length-append before (x ∷ [])) in
      let is : front ≡ before = prefix_whole front before (prefix_shorter front before rows begins (x ∷ [], sym ends) same_length) other_length in
      ends ∙ ap (λ (l : List A). l ++ x ∷ []) (sym is)
