-- Totals over workers, lists with one item replaced, and tests as numbers.
use Rattle.std.proofs.Common.{◌≡◌, ℕ, zero, suc, ◌+◌, ◌<◌, ◌≤◌, ◌≢◌, ◌==◌, Bool, true, false, ◌&&◌, List, [], ◌∷◌, ◌++◌, length, set, Some, slice_get, sym, ◌∙◌, refl, ap, subst, arith, eq-eqb, ne_eqb, lt-ltb, le-ltb}
use Rattle.std.proofs.lemmas.Option.{none-some, same_Some}
use mathlib.Core.Logic.{dite}
use native.Mathlib.Decide.{ℕ_discrete, dec_le}
use Rattle.gq_core.specs.declared.worker.Worker.{Worker}
use Rattle.gq_core.specs.Accounts.{one_if, below, times, total, put_at, put_of}

abbrev pub is : ℕ → ℕ → ℕ
is x y = one_if (x == y)

pub is_same : (x y : ℕ) → x ≡ y → is x y ≡ 1
is_same x y e = ap one_if (eq-eqb x y e)

pub is_other : (x y : ℕ) → x ≢ y → is x y ≡ 0
is_other x y n = ap one_if (ne_eqb x y n)

pub below_yes : (x n : ℕ) → x < n → below x n ≡ 1
below_yes x n h = ap one_if (lt-ltb x n h)

pub below_no : (x n : ℕ) → n ≤ x → below x n ≡ 0
below_no x n h = ap one_if (le-ltb x n h)

pub below_one : (x n : ℕ) → below x n ≤ 1
below_one x n = dite (dec_le n x) (λ h. let b = below_no x n h in omega arith) (λ h. let b = below_yes x n (omega arith) in omega arith)

pub below-next : (c x : ℕ) → below c x + is c x ≡ below c (x + 1)
below-next c x = dite (ℕ_discrete c x)
    (λ (e : c ≡ x). let a = is_same c x e in let b = below_no c x (omega arith) in let d = below_yes c (x + 1) (omega arith) in omega arith)
    (λ (ne : c ≢ x). let a = is_other c x ne in dite (dec_le x c)
    (λ (h : x ≤ c). let b = below_no c x h in let d = below_no c (x + 1) (omega arith) in omega arith)
    (λ (h : ¬ (x ≤ c)). let b = below_yes c x (omega arith) in let d = below_yes c (x + 1) (omega arith) in omega arith))

-- two tests, the first of which is known
pub first_same : (a b : Bool) → a ≡ true → one_if (a && b) ≡ one_if b
first_same a b e = ap (λ t. one_if (t && b)) e

pub first_other : (a b : Bool) → a ≡ false → one_if (a && b) ≡ 0
first_other a b e = ap (λ t. one_if (t && b)) e

pub second_same : (a b : Bool) → b ≡ true → one_if (a && b) ≡ one_if a
second_same true b e = ap one_if e
second_same false b e = refl

pub second_other : (a b : Bool) → b ≡ false → one_if (a && b) ≡ 0
second_other true b e = ap one_if e
second_other false b e = refl

-- a list with one item replaced
pub at_same : {A : Type 0} (xs : List A) (k : ℕ) (v u : A) → slice_get xs k ≡ Some v → slice_get (set xs k u) k ≡ Some u
at_same [] k v u at = absurd (none-some v at)
at_same (x ∷ xs) zero v u at = refl
at_same (x ∷ xs) (suc k) v u at = at_same xs k v u at

pub at_other : {A : Type 0} (xs : List A) (k i : ℕ) (u : A) → i ≢ k → slice_get (set xs k u) i ≡ slice_get xs i
at_other [] k i u n = refl
at_other (x ∷ xs) zero zero u n = absurd (n refl)
at_other (x ∷ xs) zero (suc i) u n = refl
at_other (x ∷ xs) (suc k) zero u n = refl
at_other (x ∷ xs) (suc k) (suc i) u n = at_other xs k i u (λ e. n (ap suc e))

-- what holds of each item still does after a change, if it holds of the new item
pub each_set : {A : Type 0} (P : ℕ → A → Type 0) (xs : List A) (k : ℕ) (v u : A) → slice_get xs k ≡ Some v → P k u → ((i : ℕ) (x : A) → i ≢ k → slice_get xs i ≡ Some x → P i x)
    → (i : ℕ) (x : A) → slice_get (set xs k u) i ≡ Some x → P i x
each_set {A} P xs k v u was mine others i x at = dite (ℕ_discrete i k)
    (λ (e : i ≡ k). let here : Some u ≡ Some x = sym (at_same xs k v u was) ∙ (ap (slice_get (set xs k u)) (sym e) ∙ at) in
    let f : P i u = subst (λ (n : ℕ). P n u) (sym e) mine in subst (P i) (same_Some u x here) f)
    (λ (ne : i ≢ k). others i x ne (sym (at_other xs k i u ne) ∙ at))

-- likewise if one item is appended
pub each_more : {A : Type 0} (P : ℕ → A → Type 0) (xs : List A) (u : A) → P (length xs) u → ((i : ℕ) (x : A) → slice_get xs i ≡ Some x → P i x)
    → (i : ℕ) (x : A) → slice_get (xs ++ u ∷ []) i ≡ Some x → P i x
each_more P [] u mine others zero x at = subst (P 0) (same_Some u x at) mine
each_more P [] u mine others (suc i) x at = absurd (none-some x at)
each_more P (y ∷ ys) u mine others zero x at = others 0 x at
each_more P (y ∷ ys) u mine others (suc i) x at = each_more (λ i x. P (suc i) x) ys u mine (λ i x at. others (suc i) x at) i x at

-- replacing one worker changes a total by the difference between the two
pub total-set : (f : Worker → ℕ) (vs : List Worker) (k : ℕ) (v u : Worker) → slice_get vs k ≡ Some v → total f (set vs k u) + f v ≡ total f vs + f u
total-set f [] k v u at = absurd (none-some v at)
total-set f (x ∷ xs) zero v u at = let e : f x ≡ f v = ap f (same_Some x v at) in omega arith
total-set f (x ∷ xs) (suc k) v u at = let r = total-set f xs k v u at in omega arith

pub total_same : (f : Worker → ℕ) (vs : List Worker) (k : ℕ) (v u : Worker) → slice_get vs k ≡ Some v → f u ≡ f v → total f (set vs k u) ≡ total f vs
total_same f vs k v u at e = let r = total-set f vs k v u at in omega arith

pub total-snoc : (f : Worker → ℕ) (vs : List Worker) (u : Worker) → total f (vs ++ u ∷ []) ≡ total f vs + f u
total-snoc f [] u = omega arith
total-snoc f (x ∷ xs) u = let r = total-snoc f xs u in omega arith

-- a worker's part is in the total, and so are those of two
pub total_at : (f : Worker → ℕ) (vs : List Worker) (k : ℕ) (v : Worker) → slice_get vs k ≡ Some v → f v ≤ total f vs
total_at f [] k v at = absurd (none-some v at)
total_at f (x ∷ xs) zero v at = let e : f x ≡ f v = ap f (same_Some x v at) in omega arith
total_at f (x ∷ xs) (suc k) v at = let r = total_at f xs k v at in omega arith

pub total_two : (f : Worker → ℕ) (vs : List Worker) (k i : ℕ) (v u : Worker) → slice_get vs k ≡ Some v → slice_get vs i ≡ Some u → i ≢ k → f v + f u ≤ total f vs
total_two f [] k i v u at there ne = absurd (none-some v at)
total_two f (x ∷ xs) zero zero v u at there ne = absurd (ne refl)
total_two f (x ∷ xs) zero (suc i) v u at there ne = let e : f x ≡ f v = ap f (same_Some x v at) in let r = total_at f xs i u there in omega arith
total_two f (x ∷ xs) (suc k) zero v u at there ne = let e : f x ≡ f u = ap f (same_Some x u there) in let r = total_at f xs k v at in omega arith
total_two f (x ∷ xs) (suc k) (suc i) v u at there ne = let r = total_two f xs k i v u at there (λ e. ne (ap suc e)) in omega arith

-- a total is at most another if each worker's part is, and less if one worker's part is less
pub total_le : (f g : Worker → ℕ) (vs : List Worker) → ((k : ℕ) (v : Worker) → slice_get vs k ≡ Some v → f v ≤ g v) → total f vs ≤ total g vs
total_le f g [] h = omega arith
total_le f g (x ∷ xs) h = let a = h 0 x refl in let r = total_le f g xs (λ k v at. h (suc k) v at) in omega arith

pub total_lt : (f g : Worker → ℕ) (vs : List Worker) → ((k : ℕ) (v : Worker) → slice_get vs k ≡ Some v → f v ≤ g v) → (k : ℕ) (v : Worker) → slice_get vs k ≡ Some v → f v < g v → total f vs < total g vs
total_lt f g [] h k v at less = absurd (none-some v at)
total_lt f g (x ∷ xs) h zero v at less =
    let a : f x < g x = subst (λ (z : Worker). f z < g z) (sym (same_Some x v at)) less in let r = total_le f g xs (λ k v at. h (suc k) v at) in omega arith
total_lt f g (x ∷ xs) h (suc k) v at less = let a = h 0 x refl in let r = total_lt f g xs (λ k v at. h (suc k) v at) k v at less in omega arith

pub total_agrees : (f g : Worker → ℕ) (vs : List Worker) → ((k : ℕ) (v : Worker) → slice_get vs k ≡ Some v → f v ≡ g v) → total f vs ≡ total g vs
total_agrees f g [] h = refl
total_agrees f g (x ∷ xs) h = let a = h 0 x refl in let r = total_agrees f g xs (λ k v at. h (suc k) v at) in omega arith

-- counts in concatenated lists
pub times-append : (x : ℕ) (ys zs : List ℕ) → times x (ys ++ zs) ≡ times x ys + times x zs
times-append x [] zs = omega arith
times-append x (y ∷ ys) zs = let r = times-append x ys zs in omega arith

pub put_at-append : (j : ℕ) (ps qs : List (ℕ × ℕ)) → put_at j (ps ++ qs) ≡ put_at j ps + put_at j qs
put_at-append j [] qs = omega arith
put_at-append j (p ∷ ps) qs = let r = put_at-append j ps qs in omega arith

pub put_of-append : (c j : ℕ) (ps qs : List (ℕ × ℕ)) → put_of c j (ps ++ qs) ≡ put_of c j ps + put_of c j qs
put_of-append c j [] qs = omega arith
put_of-append c j (p ∷ ps) qs = let r = put_of-append c j ps qs in omega arith
