-- Numbers, truths and bits: each is gathered by a step that commutes and groups.
use Rattle.std.proofs.Common.{◌≡◌, ℕ, ◌%◌, ◌^◌, ◌<◌, max, ℤ, pos, negsuc, ◌+ℤ◌, ◌||◌, ◌&&◌, Bool, true, false, List, [], ◌∷◌, ◌++◌, refl, sym, ap, ◌∙◌, arith}
use Rattle.std.specs.Int.{int_max, int_min, cast_unsigned, cast_signed, w64, bit_at}
use Rattle.std.specs.Int.RustNames.{bit_and, bit_or, FitsSigned}
use Rattle.std.proofs.lemmas.Int.{ints, clamps, of_z-to_z, to_z-of_z}
use Rattle.std.proofs.lemmas.Nat.{or_comm, and_comm, or_lt, and_le_l, and_assoc, and_mask}
use Rattle.std.proofs.lemmas.Nat.Bits.{same_from_bits, bit_at_or}
use Rattle.std.proofs.Math.Facts.{sfits_to_z, Fits-of_z}
use Rattle.std.specs.Int.Bits.{or_zero_r}
use Rattle.gq_accum_laws.specs.Inputs.{total, word, either_bits, both_bits}

pub sum_commutes : (x y z : ℤ) → x +ℤ (y +ℤ z) ≡ y +ℤ (x +ℤ z)
sum_commutes x y z = omega (arith, ints)

pub min_commutes : (x y z : ℤ) → int_min x (int_min y z) ≡ int_min y (int_min x z)
min_commutes x y z = omega (arith, ints, clamps)

pub max_commutes : (x y z : ℤ) → int_max x (int_max y z) ≡ int_max y (int_max x z)
max_commutes x y z = omega (arith, ints, clamps)

pub or_commutes : (x y z : Bool) → (x || (y || z)) ≡ (y || (x || z))
or_commutes true true z = refl
or_commutes true false z = refl
or_commutes false true z = refl
or_commutes false false z = refl

pub and_commutes : (x y z : Bool) → (x && (y && z)) ≡ (y && (x && z))
and_commutes true true z = refl
and_commutes true false z = refl
and_commutes false true z = refl
and_commutes false false z = refl

pub or_turns : (x y : Bool) → (x || y) ≡ (y || x)
or_turns true true = refl
or_turns true false = refl
or_turns false true = refl
or_turns false false = refl

pub and_turns : (x y : Bool) → (x && y) ≡ (y && x)
and_turns true true = refl
and_turns true false = refl
and_turns false true = refl
and_turns false false = refl

pub or_groups : (x y z : Bool) → ((x || y) || z) ≡ (x || (y || z))
or_groups true y z = refl
or_groups false y z = refl

pub and_groups : (x y z : Bool) → ((x && y) && z) ≡ (x && (y && z))
and_groups true y z = refl
and_groups false y z = refl

pub or_none : (x : Bool) → (x || false) ≡ x
or_none true = refl
or_none false = refl

pub and_none : (x : Bool) → (x && true) ≡ x
and_none true = refl
and_none false = refl

pub total-append : (xs ys : List ℤ) → total (xs ++ ys) ≡ total xs +ℤ total ys
total-append [] ys = omega (arith, ints)
total-append (x ∷ xs) ys = let h = total-append xs ys in omega (arith, ints, h)

-- bits
pub word-lt : (x : ℤ) → word x < 2 ^ 64
word-lt x = grind arith

or_groups_bits : (a b c : ℕ) → bit_or (bit_or a b) c ≡ bit_or a (bit_or b c)
or_groups_bits a b c = same_from_bits _ _ (λ i.
    let e1 = bit_at_or (bit_or a b) c i in let e2 = bit_at_or a b i in let e3 = bit_at_or a (bit_or b c) i in let e4 = bit_at_or b c i in
    e1 ∙ ap (λ m. max m (bit_at c i)) e2 ∙ most (bit_at a i) (bit_at b i) (bit_at c i) ∙ sym (e3 ∙ ap (max (bit_at a i)) e4))
  where
    most : (x y z : ℕ) → max (max x y) z ≡ max x (max y z)
    most x y z = omega arith

word-signed : (n : ℕ) → n < 2 ^ 64 → word (cast_signed w64 n) ≡ n
word-signed n h = ap (λ m. m % 2 ^ 64) (of_z-to_z w64 n h) ∙ small n h
  where
    small : (n : ℕ) → n < 2 ^ 64 → n % 2 ^ 64 ≡ n
    small n h = grind arith

either_lt : (x y : ℤ) → bit_or (word x) (word y) < 2 ^ 64
either_lt x y = or_lt 64 (word x) (word y) (word-lt x) (word-lt y)

both_lt : (x y : ℤ) → bit_and (word x) (word y) < 2 ^ 64
both_lt x y = let h = word-lt x in let k = and_le_l (word x) (word y) in omega (arith, h, k)

pub either_turns : (x y : ℤ) → either_bits x y ≡ either_bits y x
either_turns x y = ap (cast_signed w64) (or_comm (word x) (word y))

pub both_turns : (x y : ℤ) → both_bits x y ≡ both_bits y x
both_turns x y = ap (cast_signed w64) (and_comm (word x) (word y))

pub either_groups : (x y z : ℤ) → either_bits (either_bits x y) z ≡ either_bits x (either_bits y z)
either_groups x y z = ap (cast_signed w64)
    (ap (λ m. bit_or m (word z)) (word-signed (bit_or (word x) (word y)) (either_lt x y))
    ∙ or_groups_bits (word x) (word y) (word z)
    ∙ sym (ap (bit_or (word x)) (word-signed (bit_or (word y) (word z)) (either_lt y z))))

pub both_groups : (x y z : ℤ) → both_bits (both_bits x y) z ≡ both_bits x (both_bits y z)
both_groups x y z = ap (cast_signed w64)
    (ap (λ m. bit_and m (word z)) (word-signed (bit_and (word x) (word y)) (both_lt x y))
    ∙ and_assoc (word z) (word x) (word y)
    ∙ sym (ap (bit_and (word x)) (word-signed (bit_and (word y) (word z)) (both_lt y z))))

pub either_commutes : (x y z : ℤ) → either_bits x (either_bits y z) ≡ either_bits y (either_bits x z)
either_commutes x y z = sym (either_groups x y z) ∙ ap (λ c. either_bits c z) (either_turns x y) ∙ either_groups y x z

pub both_commutes : (x y z : ℤ) → both_bits x (both_bits y z) ≡ both_bits y (both_bits x z)
both_commutes x y z = sym (both_groups x y z) ∙ ap (λ c. both_bits c z) (both_turns x y) ∙ both_groups y x z

signed_fits : (n : ℕ) → n < 2 ^ 64 → FitsSigned w64 (cast_signed w64 n)
signed_fits n h = sfits_to_z (record { fits = h })

pub either_fits : (x y : ℤ) → FitsSigned w64 (either_bits x y)
either_fits x y = signed_fits (bit_or (word x) (word y)) (either_lt x y)

pub both_fits : (x y : ℤ) → FitsSigned w64 (both_bits x y)
both_fits x y = signed_fits (bit_and (word x) (word y)) (both_lt x y)

pub word-is : (c : ℤ) → FitsSigned w64 c → word c ≡ cast_unsigned w64 c
word-is c h = let f = Fits-of_z {z = c} h in below (cast_unsigned w64 c) f.fits
  where
    below : (n : ℕ) → n < 2 ^ 64 → n % 2 ^ 64 ≡ n
    below n h = grind arith

-- the openings change nothing
pub either_none : (c : ℤ) → FitsSigned w64 c → either_bits c (pos 0) ≡ c
either_none c h = ap (cast_signed w64) (or_zero_r (word c) ∙ word-is c h) ∙ to_z-of_z w64 c h

pub both_none : (c : ℤ) → FitsSigned w64 c → both_bits c (negsuc 0) ≡ c
both_none c h = ap (cast_signed w64) (and_mask (word c) 64 ∙ mod_twice (cast_unsigned w64 c) ∙ word-is c h) ∙ to_z-of_z w64 c h
  where
    mod_twice : (n : ℕ) → n % 2 ^ 64 % 2 ^ 64 ≡ n % 2 ^ 64
    mod_twice n = grind arith
