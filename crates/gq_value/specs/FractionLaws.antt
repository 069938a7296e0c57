-- FractionLaws: the order of exact values is total, since to multiply both sides by a count changes nothing.
use Rattle.std.proofs.Common.{◌≡◌, ℕ, zero, suc, ◌*◌, ℤ, pos, negsuc, ◌*ℤ◌, neg_ℤ, ◌≤◌, max, ◌<ℤ◌, Ordering, Less, Equal, Greater, int_cmp, refl, sym, ap, ap₂, ◌∙◌, arith}
use Rattle.std.proofs.Math.Nat.{mul_assoc, mul_comm, mul-le-mul_right}
use Rattle.std.proofs.lemmas.Int.{ints}
use Rattle.std.specs.Cmp.{IsTotalOrder, int_cmp_is, int_ranks}
use Rattle.std.specs.Ordering.{MatchOrdering}
use Rattle.std.proofs.lemmas.Cmp.{int_cmp_total, int_ranked}
use Rattle.gq_value.specs.Order.{exactly}

neg-times : (k n : ℕ) → neg_ℤ (pos k) *ℤ pos n ≡ neg_ℤ (pos (k * n))
neg-times zero n = let e : 0 * n ≡ 0 = omega arith in rw e refl
neg-times (suc k) n = refl

times_times : (z : ℤ) (m n : ℕ) → (z *ℤ pos m) *ℤ pos n ≡ z *ℤ pos (m * n)
times_times (pos a) m n = ap pos (mul_assoc a m n)
times_times (negsuc a) m n = neg-times (suc a * m) n ∙ ap (λ k. neg_ℤ (pos k)) (mul_assoc (suc a) m n)

-- two factors in either order
swapped : (z : ℤ) (m n : ℕ) → (z *ℤ pos m) *ℤ pos n ≡ (z *ℤ pos n) *ℤ pos m
swapped z m n = times_times z m n ∙ ap (λ k. z *ℤ pos k) (mul_comm m n) ∙ sym (times_times z n m)

less_times : (x y : ℤ) (n : ℕ) → x <ℤ y → (x *ℤ pos (suc n)) <ℤ (y *ℤ pos (suc n))
less_times (pos a) (pos b) n h = let g : suc a ≤ b = omega (arith, ints) in omega (arith, ints, mul-le-mul_right (suc n) g)
less_times (pos a) (negsuc b) n h = omega (arith, ints)
less_times (negsuc a) (pos b) n h = omega (arith, ints)
less_times (negsuc a) (negsuc b) n h = let g : suc b ≤ a = omega (arith, ints) in omega (arith, ints, mul-le-mul_right (suc n) g)

ranks_times : (x y : ℤ) (n : ℕ) (o : Ordering) → MatchOrdering o (x <ℤ y) (x ≡ y) (y <ℤ x) → MatchOrdering o ((x *ℤ pos (suc n)) <ℤ (y *ℤ pos (suc n))) (x *ℤ pos (suc n) ≡ y *ℤ pos (suc n)) ((y *ℤ pos (suc n)) <ℤ (x *ℤ pos (suc n)))
ranks_times x y n Less h = less_times x y n h
ranks_times x y n Equal h = ap (λ z. z *ℤ pos (suc n)) h
ranks_times x y n Greater h = less_times y x n h

cmp_times : (x y : ℤ) (n : ℕ) → int_cmp (x *ℤ pos (suc n)) (y *ℤ pos (suc n)) ≡ int_cmp x y
cmp_times x y n = sym (int_cmp_is (x *ℤ pos (suc n)) (y *ℤ pos (suc n)) (int_cmp x y) (ranks_times x y n (int_cmp x y) (int_ranks x y)))

-- both sides times a count
pub scaled : (x y : ℤ) (n : ℕ) → int_cmp (x *ℤ pos (max n 1)) (y *ℤ pos (max n 1)) ≡ int_cmp x y
scaled x y zero = cmp_times x y 0
scaled x y (suc n) = let e : max (suc n) 1 ≡ suc n = omega arith in rw e (cmp_times x y n)

pub int_same : (x y : ℤ) → int_cmp x y ≡ Equal → x ≡ y
int_same x y h = int_ranked x y Equal (sym h)

-- the three sides of three fractions over one another
times : ℤ → ℕ → ℕ → ℤ
times z m n = (z *ℤ pos (max m 1)) *ℤ pos (max n 1)

turned : (z : ℤ) (m n : ℕ) → times z m n ≡ times z n m
unfolding times
turned z m n = swapped z (max m 1) (max n 1)

first_side : (x y z : ℤ × ℕ) → int_cmp (times x.0 z.1 y.1) (times y.0 z.1 x.1) ≡ exactly x y
unfolding times
first_side x y z = ap₂ int_cmp (turned x.0 z.1 y.1) (turned y.0 z.1 x.1) ∙ scaled (x.0 *ℤ pos (max y.1 1)) (y.0 *ℤ pos (max x.1 1)) z.1

second_side : (x y z : ℤ × ℕ) → int_cmp (times y.0 z.1 x.1) (times z.0 x.1 y.1) ≡ exactly y z
unfolding times
second_side x y z = ap (λ w. int_cmp (times y.0 z.1 x.1) w) (turned z.0 x.1 y.1) ∙ scaled (y.0 *ℤ pos (max z.1 1)) (z.0 *ℤ pos (max y.1 1)) x.1

outer_sides : (x y z : ℤ × ℕ) → int_cmp (times x.0 z.1 y.1) (times z.0 x.1 y.1) ≡ exactly x z
unfolding times
outer_sides x y z = scaled (x.0 *ℤ pos (max z.1 1)) (z.0 *ℤ pos (max x.1 1)) y.1

pub exactly_total : IsTotalOrder exactly
exactly_total = record {
  antisymm = λ x y. int_cmp_total.antisymm (x.0 *ℤ pos (max y.1 1)) (y.0 *ℤ pos (max x.1 1));
  trans = λ x y z h k. sym (outer_sides x y z) ∙ int_cmp_total.trans (times x.0 z.1 y.1) (times y.0 z.1 x.1) (times z.0 x.1 y.1) (first_side x y z ∙ h) (second_side x y z ∙ k);
  congr = λ x y z h. sym (outer_sides x y z) ∙ int_cmp_total.congr (times x.0 z.1 y.1) (times y.0 z.1 x.1) (times z.0 x.1 y.1) (first_side x y z ∙ h) ∙ second_side x y z;
}
