-- NumberSteps: extremes and bits as the code has them.
use Rattle.std.proofs.Common.{◌≡◌, ℕ, min, max, ℤ, pos, sym, ap, ap₂, ◌∙◌, arith, FitsSigned, bit_and, bit_or, w64, to_z, of_z}
use Rattle.std.specs.Int.{int_min, int_max}
use Rattle.std.proofs.lemmas.Int.{ints, clamps, to_z-of_z}
use Rattle.gq_accum_laws.specs.Inputs.{either_bits, both_bits}
use Rattle.gq_accum_laws.proofs.NumberLaws.{word-is}

pub min_is : (a b r : ℤ) → FitsSigned w64 a → FitsSigned w64 b → FitsSigned w64 r → r ≡ int_min (to_z w64 (of_z w64 a)) (to_z w64 (of_z w64 b)) → to_z w64 (of_z w64 r) ≡ int_min a b
min_is a b r f g h e = to_z-of_z w64 r h ∙ e ∙ ap₂ int_min (to_z-of_z w64 a f) (to_z-of_z w64 b g)

pub max_is : (a b r : ℤ) → FitsSigned w64 a → FitsSigned w64 b → FitsSigned w64 r → r ≡ int_max (to_z w64 (of_z w64 a)) (to_z w64 (of_z w64 b)) → to_z w64 (of_z w64 r) ≡ int_max a b
max_is a b r f g h e = to_z-of_z w64 r h ∙ e ∙ ap₂ int_max (to_z-of_z w64 a f) (to_z-of_z w64 b g)

pub umin_is : (a b r : ℕ) → r ≡ min a b → pos r ≡ int_min (pos a) (pos b)
umin_is a b r e = omega (arith, ints, clamps, e)

pub umax_is : (a b r : ℕ) → r ≡ max a b → pos r ≡ int_max (pos a) (pos b)
umax_is a b r e = omega (arith, ints, clamps, e)

pub either_is : (a b : ℤ) → FitsSigned w64 a → FitsSigned w64 b → to_z w64 (bit_or (of_z w64 a) (of_z w64 b)) ≡ either_bits a b
either_is a b f g = ap (to_z w64) (ap₂ bit_or (sym (word-is a f)) (sym (word-is b g)))

pub both_is : (a b : ℤ) → FitsSigned w64 a → FitsSigned w64 b → to_z w64 (bit_and (of_z w64 a) (of_z w64 b)) ≡ both_bits a b
both_is a b f g = ap (to_z w64) (ap₂ bit_and (sym (word-is a f)) (sym (word-is b g)))
