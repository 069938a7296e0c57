-- SumSteps: sums in 128 bits that have room.
use Rattle.std.proofs.Common.{◌≡◌, ℕ, ◌+◌, ◌*◌, ◌^◌, ◌<◌, ◌≤◌, ℤ, pos, negsuc, nat_abs, ◌+ℤ◌, sym, ap, ap₂, ◌∙◌, subst, arith, FitsSigned, w64, to_z, of_z}
use Rattle.std.specs.Int.{w128, int_wrap}
use Rattle.std.proofs.lemmas.Int.{ints, to_z-of_z, fits_signed_from_abs, int_wrap_fits}
use Rattle.gq_accum.specs.Scalars.{IsFar}

far_abs : (a : ℤ) → IsFar a → nat_abs a < 2 ^ 126
far_abs a h = let l = h.1 in let m = h.2 in omega (arith, l, m)

pub far_fits : (a : ℤ) → IsFar a → FitsSigned w128 a
far_fits a h = let l = far_abs a h in fits_signed_from_abs w128 a (omega (arith, l))

-- as the code has it
pub far_read : (a : ℤ) → IsFar a → to_z w128 (of_z w128 a) ≡ a
far_read a h = to_z-of_z w128 a (far_fits a h)

both_fit : (a b : ℤ) → IsFar a → IsFar b → FitsSigned w128 (a +ℤ b)
both_fit a b h g = let l = far_abs a h in let m = far_abs b g in fits_signed_from_abs w128 (a +ℤ b) (omega (arith, ints, l, m))

pub total_is : (a b r : ℤ) → r ≡ int_wrap w128 (a +ℤ b) → IsFar a → IsFar b → r ≡ a +ℤ b
total_is a b r e h g = e ∙ int_wrap_fits w128 (a +ℤ b) (both_fit a b h g)

-- as the code has it, if its sums are read back
pub sum_is : (a b p q r s : ℤ) → p ≡ a → q ≡ b → s ≡ to_z w128 (of_z w128 r) → (IsFar (to_z w128 (of_z w128 p)) → IsFar (to_z w128 (of_z w128 q)) → r ≡ to_z w128 (of_z w128 p) +ℤ to_z w128 (of_z w128 q)) → IsFar a → IsFar b → s ≡ a +ℤ b
sum_is a b p q r s pa qb sr e h g =
    let m = ap (λ z. to_z w128 (of_z w128 z)) pa ∙ far_read a h in let n = ap (λ z. to_z w128 (of_z w128 z)) qb ∙ far_read b g in
    let t : r ≡ a +ℤ b = e (subst IsFar (sym m) h) (subst IsFar (sym n) g) ∙ ap₂ ◌+ℤ◌ m n in
    sr ∙ to_z-of_z w128 r (subst (FitsSigned w128) (sym t) (both_fit a b h g)) ∙ t

-- one number is not far
pub near : (x : ℤ) → FitsSigned w64 x → IsFar x
near (pos n) h = let l = h.sfits in (1, omega arith, omega (arith, l))
near (negsuc n) h = let l = h.sfits in (1, omega arith, omega (arith, l))

pub near_pos : (n : ℕ) → n < 2 ^ 64 → IsFar (pos n)
near_pos n h = (1, omega arith, omega (arith, h))

-- a number of 64 bits in 128
pub widened : (x r : ℤ) → FitsSigned w64 x → r ≡ to_z w64 (of_z w64 x) → r ≡ x
widened x r f e = e ∙ to_z-of_z w64 x f

pub fed_is : (a p r x t s : ℤ) → p ≡ a → s ≡ to_z w128 (of_z w128 t) → (IsFar (to_z w128 (of_z w128 p)) → IsFar (to_z w128 (of_z w128 r)) → t ≡ to_z w128 (of_z w128 p) +ℤ to_z w128 (of_z w128 r)) → IsFar a → IsFar x → r ≡ x → s ≡ a +ℤ (x +ℤ pos 0)
fed_is a p r x t s pa st e h g rx = sum_is a x p r t s pa rx st e h g ∙ alone a x
  where
    alone : (a x : ℤ) → a +ℤ x ≡ a +ℤ (x +ℤ pos 0)
    alone a x = omega (arith, ints)

pub counts_room : (a b f g : ℕ) → f < 2 ^ 62 → g < 2 ^ 62 → a ≤ f * 2 ^ 63 → b ≤ g * 2 ^ 63 → a + b < 2 ^ 128
counts_room a b f g k l m n = omega (arith, k, l, m, n)

pub count_room : (a f : ℕ) → f < 2 ^ 62 → a ≤ f * 2 ^ 63 → a + 1 < 2 ^ 128
count_room a f k l = omega (arith, k, l)

pub count_is : (a b p q r s : ℕ) → p ≡ a → q ≡ b → s ≡ r → (p + q < 2 ^ 128 → r ≡ p + q) → a + b < 2 ^ 128 → s ≡ a + b
count_is a b p q r s pa qb sr e l = sr ∙ e (subst (λ (n : ℕ). n < 2 ^ 128) (sym (ap₂ ◌+◌ pa qb)) l) ∙ ap₂ ◌+◌ pa qb

pub kept_near : (x r s : ℤ) → IsFar x → r ≡ x → s ≡ to_z w128 (of_z w128 r) → s ≡ x
kept_near x r s h e sr = sr ∙ far_read r (subst IsFar (sym e) h) ∙ e
