-- ArithmeticLemmas: which numbers a type can hold, and the type of a result.
use Rattle.std.proofs.Common.{◌≡◌, ℕ, ◌<◌, ◌≤◌, ◌^◌, ℤ, pos, negsuc, true, false, Ok, Err, nat_abs, zero, suc, ◌/◌, neg_ℤ, int_div, int_rem, ◌+ℤ◌, ◌⊎◌, inl, inr, Result, subst, ◌≤ℤ◌, ◌<ℤ◌, refl, arith, FitsSigned, w64, to_z, of_z}
use Rattle.std.specs.Int.{w128}
use Rattle.std.proofs.lemmas.Int.{ints, to_z-of_z, quot_is, rem_is}
use Rattle.std.proofs.lemmas.Bool.Decides.{nat_tests}
use Rattle.gq_value.specs.declared.kind.Number.{Number}
use Rattle.gq_value.specs.declared.kind.Number.TheVariants as number
use Rattle.gq_value.specs.declared.value.Wrong.TheVariants.{Range}
use Rattle.gq_value.specs.Val.{Val, Int, UInt, Truth, Text, Vertex, Tuple, Fraction}
use Rattle.gq_value.specs.declared.value.Value.TheVariants as value
use Rattle.std.specs.Int.Signed.{mag}
use Rattle.std.proofs.Math.Nat.{div-le_self}
use Rattle.gq_value.specs.declared.value.Value.{Value}
use Rattle.gq_value.specs.declared.value.EvalFault.{EvalFault}
use Rattle.gq_value.specs.Answers.{Gives}
use Rattle.gq_value.specs.Views.{val}
use Rattle.gq_value.specs.ViewLaws.{view_laws, val-Int, val-UInt}
use Rattle.gq_value.specs.Arithmetic.{IsText, IsWide, whole, added, is_zero, is_within, in_type, type_of, type_of_both}

within_int : (z : ℤ) → FitsSigned w64 z → is_within number.Int z ≡ true
within_int (pos n) h = let k : n < 2 ^ 63 = h.sfits in grind (arith, nat_tests)
within_int (negsuc n) h = let k : n < 2 ^ 63 = h.sfits in grind (arith, nat_tests)

pub kept_int : (z : ℤ) → FitsSigned w64 z → in_type number.Int z ≡ Ok (Int z)
kept_int z h = rw (within_int z h) refl

pub kept_uint : (n : ℕ) → n < 2 ^ 64 → in_type number.UInt (pos n) ≡ Ok (UInt n)
kept_uint n h = let e : is_within number.UInt (pos n) ≡ true = grind (arith, nat_tests) in rw e refl

-- a number that 128 bits can't hold is in no type
pub refused : (t : Number) (z : ℤ) → (FitsSigned w128 z → ⊥) → in_type t z ≡ Err Range
refused number.Int (pos n) h = let k : n < 2 ^ 127 → ⊥ = λ p. h (record { sfits = p }) in let e : is_within number.Int (pos n) ≡ false = grind (arith, nat_tests, k) in rw e refl
refused number.Int (negsuc n) h = let k : n < 2 ^ 127 → ⊥ = λ p. h (record { sfits = p }) in let e : is_within number.Int (negsuc n) ≡ false = grind (arith, nat_tests, k) in rw e refl
refused number.UInt (pos n) h = let k : n < 2 ^ 127 → ⊥ = λ p. h (record { sfits = p }) in let e : is_within number.UInt (pos n) ≡ false = grind (arith, nat_tests, k) in rw e refl
refused number.UInt (negsuc n) h = refl

-- the code's answer if the type holds the number
pub int_answer : (t : Number) (z x : ℤ) → t ≡ number.Int → FitsSigned w64 z → x ≡ z → in_type t z ≡ Ok (val (value.Int (to_z w64 (of_z w64 x))))
int_answer t z x e h k = rw (e, k, to_z-of_z w64 z h, val-Int z) (kept_int z h)

pub uint_answer : (t : Number) (z : ℤ) (x : ℕ) → t ≡ number.UInt → pos 0 ≤ℤ z → z <ℤ pos (2 ^ 64) → x ≡ nat_abs z → in_type t z ≡ Ok (val (value.UInt x))
uint_answer t (pos n) x e l h k = rw (e, k, val-UInt n) (kept_uint n (omega (arith, ints)))
uint_answer t (negsuc n) x e l h k = absurd (omega (arith, ints))

-- a divisor in the code's bits
pub not_zero : (z : ℤ) → (of_z w128 z ≡ 0 → ⊥) → is_zero z ≡ false
not_zero (pos zero) h = absurd (h refl)
not_zero (pos (suc n)) h = refl
not_zero (negsuc n) h = refl

pub zero_is : (z : ℤ) → FitsSigned w128 z → of_z w128 z ≡ 0 → is_zero z ≡ true
zero_is (pos zero) f h = refl
zero_is (pos (suc n)) f h = cc
zero_is (negsuc n) f h = let k : n < 2 ^ 127 = f.sfits in absurd (omega arith)

mag-neg : (n : ℕ) → mag (neg_ℤ (pos n)) ≤ n
mag-neg zero = omega arith
mag-neg (suc n) = omega arith

-- a quotient is no wider than its dividend
pub quotient_fits : (a d : ℤ) → IsWide a → FitsSigned w128 (int_div a d)
quotient_fits (pos a) (pos b) h = let k : a ≤ 2 ^ 64 = omega (arith, ints, h.1) in record { sfits = omega (arith, div-le_self a b) }
quotient_fits (pos a) (negsuc b) h = let k : a ≤ 2 ^ 64 = omega (arith, ints, h.1) in record { sfits = omega (arith, mag-neg (a / suc b), div-le_self a (suc b)) }
quotient_fits (negsuc a) (pos b) h = let k : a ≤ 2 ^ 64 = omega (arith, ints, h.0) in record { sfits = omega (arith, mag-neg (suc a / b), div-le_self (suc a) b) }
quotient_fits (negsuc a) (negsuc b) h = let k : a ≤ 2 ^ 64 = omega (arith, ints, h.0) in record { sfits = omega (arith, div-le_self (suc a) (suc b)) }

pub wide_fits : (z : ℤ) → IsWide z → FitsSigned w128 z
wide_fits (pos n) h = record { sfits = omega (arith, ints, h.1) }
wide_fits (negsuc n) h = record { sfits = omega (arith, ints, h.0) }

-- the answer for the operands in the code's bits is the answer for the numbers themselves
pub quotient_answer : (t : Number) (r : Result Value EvalFault) (a d : ℤ) → IsWide a → IsWide d → Gives ⊥ r (in_type t (to_z w128 (of_z w128 (int_div (to_z w128 (of_z w128 a)) (to_z w128 (of_z w128 d)))))) → Gives ⊥ r (in_type t (int_div a d))
quotient_answer t r a d h k g = subst (λ z. Gives ⊥ r (in_type t z)) (quot_is w128 a d (wide_fits a h) (wide_fits d k) (quotient_fits a d h)) g

pub rest_answer : (t : Number) (r : Result Value EvalFault) (a d : ℤ) → IsWide a → IsWide d → Gives ⊥ r (in_type t (to_z w128 (of_z w128 (int_rem (to_z w128 (of_z w128 a)) (to_z w128 (of_z w128 d)))))) → Gives ⊥ r (in_type t (int_rem a d))
rest_answer t r a d h k g = subst (λ z. Gives ⊥ r (in_type t z)) (rem_is w128 a d (wide_fits a h) (wide_fits d k)) g

pub int_first : (a b : Val) → type_of a ≡ number.Int → type_of_both a b ≡ number.Int
int_first (Int z) b h = refl
int_first (UInt n) b h = cc
int_first (Truth t) b h = refl
int_first (Text s) b h = refl
int_first (Vertex n) b h = refl
int_first (Tuple row) b h = refl
int_first (Fraction s n) b h = refl

pub uint_first : (a b : Val) → type_of a ≡ number.UInt → type_of_both a b ≡ type_of b
uint_first (Int z) b h = cc
uint_first (UInt n) b h = refl
uint_first (Truth t) b h = cc
uint_first (Text s) b h = cc
uint_first (Vertex n) b h = cc
uint_first (Tuple row) b h = cc
uint_first (Fraction s n) b h = cc

-- the sum of a value that is a whole number
pub sum_answer : (v : Value) (b : Val) (r : Result Value EvalFault) → ((z : ℤ) × (v ≡ value.Int z)) ⊎ ((n : ℕ) × (v ≡ value.UInt n)) → Gives ⊥ r (in_type (type_of_both (val v) b) (whole (val v) +ℤ whole b)) → Gives (IsText (val v)) r (added (val v) b)
sum_answer v b r (inl p) g = rw (p.1, val-Int p.0) (rw (p.1, val-Int p.0) at g)
sum_answer v b r (inr p) g = rw (p.1, val-UInt p.0) (rw (p.1, val-UInt p.0) at g)

pub ruleset sum_steps = (view_laws)

pub ruleset type_steps = (int_first, uint_first)
