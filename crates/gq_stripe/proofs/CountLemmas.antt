-- CountLemmas: puts counted by stripe, and sums over workers that contribute nothing.
use Rattle.std.proofs.Common.{◌≡◌, ℕ, zero, suc, ◌+◌, ◌*◌, ◌<◌, ◌≤◌, ◌≢◌, ◌==◌, ◌&&◌, nat_lt, Bool, true, false, List, [], ◌∷◌, ◌++◌, length, set, slice_get, Some, sym, refl, ap, ◌∙◌, subst, arith}
use mathlib.Core.Logic.{dite}
use native.Mathlib.Decide.{ℕ_discrete, dec_le, dec_lt}
use Rattle.gq_core.specs.declared.worker.Worker.{Worker}
use Rattle.gq_core.specs.Accounts.{one_if, below, times, total, put_at, put_of}
use Rattle.gq_core.proofs.TotalLemmas.{is, is_same, is_other, below_yes, below_no, below-next, first_same, total_le}

-- the number of puts at stripes below n
abbrev at_below : ℕ → List (ℕ × ℕ) → ℕ
at_below n [] = 0
at_below n (p ∷ ps) = below p.1 n + at_below n ps

at_none : (ps : List (ℕ × ℕ)) → at_below 0 ps ≡ 0
at_none [] = refl
at_none (p ∷ ps) = let r = at_none ps in let b = below_no p.1 0 (omega arith) in omega arith

turned : (x y : ℕ) → is x y ≡ is y x
turned x y = dite (ℕ_discrete x y)
    (λ (e : x ≡ y). let a = is_same x y e in let b = is_same y x (sym e) in omega arith)
    (λ (ne : x ≢ y). let a = is_other x y ne in let b = is_other y x (λ e. ne (sym e)) in omega arith)

at_more : (n : ℕ) (ps : List (ℕ × ℕ)) → at_below (n + 1) ps ≡ at_below n ps + put_at n ps
at_more n [] = refl
at_more n (p ∷ ps) = let r = at_more n ps in let b = below-next p.1 n in let t = turned p.1 n in omega arith

at_all : (n : ℕ) (ps : List (ℕ × ℕ)) → ((c j : ℕ) → n ≤ j → put_of c j ps ≡ 0) → at_below n ps ≡ length ps
at_all n [] h = refl
at_all n (p ∷ ps) h =
    let r = at_all n ps (λ c j le. let a = h c j le in omega arith) in
    let b : below p.1 n ≡ 1 = dite (dec_lt p.1 n) (λ (l : p.1 < n). below_yes p.1 n l)
    (λ (l : ¬ (p.1 < n)). let a = h p.0 p.1 (omega arith) in let f = first_same (p.0 == p.0) (p.1 == p.1) (Rattle.std.proofs.Common.eq-eqb p.0 p.0 refl) in let g = is_same p.1 p.1 refl in absurd (omega arith)) in omega arith

at_each : (n k : ℕ) (ps : List (ℕ × ℕ)) → ((j : ℕ) → j < n → put_at j ps ≡ k) → at_below n ps ≡ k * n
at_each zero k ps h = at_none ps ∙ omega arith
at_each (suc n) k ps h =
    let r = at_each n k ps (λ j less. h j (omega arith)) in let m = at_more n ps in let e = h n (omega arith) in let up : suc n ≡ n + 1 = omega arith in let z = ap (λ (x : ℕ). at_below x ps) up in
    let t : k * suc n ≡ k * n + k = Rattle.std.proofs.Common.mul-suc k n in omega arith

at_most : (n k : ℕ) (ps : List (ℕ × ℕ)) → ((j : ℕ) → j < n → put_at j ps ≤ k) → at_below n ps ≤ k * n
at_most zero k ps h = let z = at_none ps in omega arith
at_most (suc n) k ps h =
    let r = at_most n k ps (λ j less. h j (omega arith)) in let m = at_more n ps in let e = h n (omega arith) in let up : suc n ≡ n + 1 = omega arith in let z = ap (λ (x : ℕ). at_below x ps) up in
    let t : k * suc n ≡ k * n + k = Rattle.std.proofs.Common.mul-suc k n in omega arith

-- with k puts at each stripe below n there are k * n puts in all
pub puts_in_all : (n k : ℕ) (ps : List (ℕ × ℕ)) → ((c j : ℕ) → n ≤ j → put_of c j ps ≡ 0) → ((j : ℕ) → j < n → put_at j ps ≡ k) → length ps ≡ k * n
puts_in_all n k ps within each = sym (at_all n ps within) ∙ at_each n k ps each

-- and with at most k at each, there are k * n in all only if there are k at each
at_least : (n k : ℕ) (ps : List (ℕ × ℕ)) → ((j : ℕ) → j < n → put_at j ps ≤ k) → k * n ≤ at_below n ps → (j : ℕ) → j < n → put_at j ps ≡ k
at_least zero k ps h all j less = absurd (omega arith)
at_least (suc n) k ps h all j less =
    let below_n = at_most n k ps (λ j less. h j (omega arith)) in let m = at_more n ps in let up : suc n ≡ n + 1 = omega arith in let z = ap (λ (x : ℕ). at_below x ps) up in
    let t : k * suc n ≡ k * n + k = Rattle.std.proofs.Common.mul-suc k n in let top = h n (omega arith) in
    dite (ℕ_discrete j n)
    (λ (e : j ≡ n). ap (λ (x : ℕ). put_at x ps) e ∙ omega arith)
    (λ (ne : j ≢ n). at_least n k ps (λ i l. h i (omega arith)) (omega arith) j (omega arith))

pub puts_at_each : (n k : ℕ) (ps : List (ℕ × ℕ)) → ((c j : ℕ) → n ≤ j → put_of c j ps ≡ 0) → ((j : ℕ) → j < n → put_at j ps ≤ k) → k * n ≤ length ps → (j : ℕ) → j < n → put_at j ps ≡ k
puts_at_each n k ps within few all j less = let a = at_all n ps within in at_least n k ps few (omega arith) j less

-- if each part is 0, so is the total
pub total_none : (f : Worker → ℕ) (vs : List Worker) → ((k : ℕ) (v : Worker) → slice_get vs k ≡ Some v → f v ≡ 0) → total f vs ≡ 0
total_none f [] h = refl
total_none f (v ∷ vs) h = let a = h 0 v refl in let r = total_none f vs (λ k u at. h (suc k) u at) in omega arith
