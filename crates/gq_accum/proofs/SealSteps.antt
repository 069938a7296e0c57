-- SealSteps: the results of `fits` and `seal`.
use Rattle.std.proofs.Common.{◌≡◌, ◌⊎◌, inl, inr, ℕ, ℤ, pos, nat_abs, Bool, true, false, Option, Some, None, MatchOption, Ok, refl, sym, ap, ◌∙◌, FitsSigned, w64, to_z, of_z}
use Rattle.std.specs.Option.{is_some}
use Rattle.std.specs.Int.{w128}
use Rattle.std.proofs.lemmas.Int.{to_z-of_z}
use Rattle.gq_value.specs.declared.kind.Number.{Number}
use Rattle.gq_value.specs.declared.kind.Number.TheVariants as number
use Rattle.gq_value.specs.declared.value.Value.TheVariants as value
use Rattle.gq_value.specs.declared.value.Fraction as fraction
use Rattle.gq_value.specs.Val.{Int, UInt, Fraction}
use Rattle.gq_value.specs.Views.{val}
use Rattle.gq_value.specs.Arithmetic.{is_within}
use Rattle.gq_value.specs.Accums.{AvgAccum}
use Rattle.gq_value.specs.ViewLaws.{val-Int, val-UInt, val-Bool, val-Fraction}
use Rattle.gq_accum_laws.specs.Fits.{fits}
use Rattle.gq_accum_laws.specs.Reads.{average}
use Rattle.gq_accum.specs.declared.scalar.Mean.{Mean}
use Rattle.gq_accum.specs.declared.scalar.Scalar.{Scalar}
use Rattle.gq_accum.specs.declared.scalar.Scalar.TheVariants.{MinInt, MinUInt, MaxInt, MaxUInt, Or, And, BitOr, BitAnd}
use Rattle.gq_accum.specs.Scalars.{kind_of, content, mean_of}
use Rattle.gq_accum.specs.Wide.{count_of, sum_of}
use Rattle.gq_accum.specs.Seals.{Seals}

-- a test that an option answers
answered : {A : Type 0} (P : A → Type 0) (o : Option A) (b t : Bool) → b ≡ is_some o → MatchOption o (t ≡ false) (λ n. (t ≡ true) × P n) → b ≡ t
answered P None b t e h = e ∙ sym h
answered P (Some n) b t e h = e ∙ sym h.0

pub judged_int : (s a : ℤ) (o : Option ℤ) (b : Bool) → FitsSigned w128 a → a ≡ s → b ≡ is_some o
    → MatchOption o (is_within number.Int (to_z w128 (of_z w128 a)) ≡ false) (λ n. (is_within number.Int (to_z w128 (of_z w128 a)) ≡ true) × (n ≡ to_z w128 (of_z w128 a))) → b ≡ is_within number.Int s
judged_int s a o b f g e h = answered (λ n. n ≡ to_z w128 (of_z w128 a)) o b _ e h ∙ ap (is_within number.Int) (to_z-of_z w128 a f ∙ g)

pub judged_uint : (s a : ℤ) (o : Option ℕ) (b : Bool) → FitsSigned w128 a → a ≡ s → b ≡ is_some o
    → MatchOption o (is_within number.UInt (to_z w128 (of_z w128 a)) ≡ false) (λ n. (is_within number.UInt (to_z w128 (of_z w128 a)) ≡ true) × (pos n ≡ to_z w128 (of_z w128 a))) → b ≡ is_within number.UInt s
judged_uint s a o b f g e h = answered (λ n. pos n ≡ to_z w128 (of_z w128 a)) o b _ e h ∙ ap (is_within number.UInt) (to_z-of_z w128 a f ∙ g)

pub judged_average : (m : Mean) (o : Option fraction.Fraction) (b : Bool) → b ≡ is_some o
    → MatchOption o (fits AvgAccum (mean_of m) ≡ false) (λ f. (fits AvgAccum (mean_of m) ≡ true) × (Fraction f.sum f.count ≡ average (sum_of m.sum) (count_of m.count))) → b ≡ fits AvgAccum (mean_of m)
judged_average m o b e h = answered (λ f. Fraction f.sum f.count ≡ average (sum_of m.sum) (count_of m.count)) o b _ e h

-- sums
pub seals_int : (s a n : ℤ) → FitsSigned w128 a → a ≡ s → FitsSigned w64 n → (is_within number.Int (to_z w128 (of_z w128 a)) ≡ true) × (n ≡ to_z w128 (of_z w128 a))
    → (is_within number.Int s ≡ true) × (val (value.Int (to_z w64 (of_z w64 n))) ≡ Int s)
seals_int s a n f is g h =
    let e = to_z-of_z w128 a f ∙ is in
    (ap (is_within number.Int) (sym e) ∙ h.0, val-Int _ ∙ ap Int (to_z-of_z w64 n g ∙ h.1 ∙ e))

pub seals_uint : (s a : ℤ) (n : ℕ) → FitsSigned w128 a → a ≡ s → (is_within number.UInt (to_z w128 (of_z w128 a)) ≡ true) × (pos n ≡ to_z w128 (of_z w128 a))
    → (is_within number.UInt s ≡ true) × (val (value.UInt n) ≡ UInt (nat_abs s))
seals_uint s a n f is h =
    let e = to_z-of_z w128 a f ∙ is in
    (ap (is_within number.UInt) (sym e) ∙ h.0, val-UInt n ∙ ap (λ x. UInt (nat_abs x)) (h.1 ∙ e))

pub beyond : (t : Number) (s a : ℤ) → FitsSigned w128 a → a ≡ s → is_within t (to_z w128 (of_z w128 a)) ≡ false → is_within t s ≡ false
beyond t s a f is h = ap (is_within t) (sym (to_z-of_z w128 a f ∙ is)) ∙ h

pub seals_average : (m : Mean) (f : fraction.Fraction) → (fits AvgAccum (mean_of m) ≡ true) × (Fraction f.sum f.count ≡ average (sum_of m.sum) (count_of m.count))
    → (fits AvgAccum (mean_of m) ≡ true) × (val (value.Fraction f) ≡ average (sum_of m.sum) (count_of m.count))
seals_average m f h = (h.0, val-Fraction f ∙ h.1)

-- contents that always fit
pub seals_truth : (s : Scalar) (b : Bool) → (s ≡ Or b) ⊎ (s ≡ And b) → Seals (kind_of s) (content (kind_of s) s) (Ok (value.Bool b))
seals_truth s b (inl e) = rw e (refl, val-Bool b)
seals_truth s b (inr e) = rw e (refl, val-Bool b)

pub seals_extreme : (s : Scalar) (n : ℕ) → (s ≡ MinUInt n) ⊎ (s ≡ MaxUInt n) → Seals (kind_of s) (content (kind_of s) s) (Ok (value.UInt n))
seals_extreme s n (inl e) = rw e (refl, val-UInt n)
seals_extreme s n (inr e) = rw e (refl, val-UInt n)

pub seals_number : (s : Scalar) (n : ℤ) → FitsSigned w64 n → (s ≡ MinInt n) ⊎ ((s ≡ MaxInt n) ⊎ ((s ≡ BitOr n) ⊎ (s ≡ BitAnd n))) → Seals (kind_of s) (content (kind_of s) s) (Ok (value.Int (to_z w64 (of_z w64 n))))
seals_number s n f (inl e) = rw e (refl, val-Int _ ∙ ap Int (to_z-of_z w64 n f))
seals_number s n f (inr (inl e)) = rw e (refl, val-Int _ ∙ ap Int (to_z-of_z w64 n f))
seals_number s n f (inr (inr (inl e))) = rw e (refl, val-Int _ ∙ ap Int (to_z-of_z w64 n f))
seals_number s n f (inr (inr (inr e))) = rw e (refl, val-Int _ ∙ ap Int (to_z-of_z w64 n f))
