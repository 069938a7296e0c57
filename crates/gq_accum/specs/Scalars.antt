-- Scalars: the contents of the code's scalars.
-- A content's type depends on its kind, so a scalar is read as a content of a kind that the reader names.
use Rattle.std.specs.Prelude.{◌≡◌, ℕ, ◌*◌, ◌^◌, ◌<◌, ◌≤◌, ℤ, pos, nat_abs, Bool, false}
use Rattle.gq_value.specs.declared.kind.Number.TheVariants as number
use Rattle.gq_value.specs.Accums.{Accum, SumAccum, MinAccum, MaxAccum, OrAccum, AndAccum, BitwiseOrAccum, BitwiseAndAccum, AvgAccum, Given, One}
use Rattle.gq_value.specs.declared.value.Value.{Value}
use Rattle.gq_value.specs.Views.{val}
use Rattle.gq_accum_laws.specs.Holds.{Holds}
use Rattle.gq_accum_laws.specs.After.{fresh}
use Rattle.gq_accum.specs.declared.scalar.Mean.{Mean}
use Rattle.gq_accum.specs.declared.scalar.Scalar.{Scalar}
use Rattle.gq_accum.specs.declared.scalar.Scalar.TheVariants.{SumInt, SumUInt, MinInt, MinUInt, MaxInt, MaxUInt, Or, And, BitOr, BitAnd, Avg}
use Rattle.gq_accum.specs.Wide.{count_of, sum_of}

-- the kind of a scalar
abbrev pub kind_of : Scalar → Accum
kind_of (SumInt c) = SumAccum number.Int
kind_of (SumUInt c) = SumAccum number.UInt
kind_of (MinInt c) = MinAccum number.Int
kind_of (MinUInt c) = MinAccum number.UInt
kind_of (MaxInt c) = MaxAccum number.Int
kind_of (MaxUInt c) = MaxAccum number.UInt
kind_of (Or c) = OrAccum
kind_of (And c) = AndAccum
kind_of (BitOr c) = BitwiseOrAccum
kind_of (BitAnd c) = BitwiseAndAccum
kind_of (Avg c) = AvgAccum

-- its number, its truth, and its sum with its count; 0 and false if it has none
abbrev pub number_in : Scalar → ℤ
number_in (SumInt c) = sum_of c
number_in (SumUInt c) = sum_of c
number_in (MinInt c) = c
number_in (MinUInt c) = pos c
number_in (MaxInt c) = c
number_in (MaxUInt c) = pos c
number_in (BitOr c) = c
number_in (BitAnd c) = c
number_in s = pos 0

abbrev pub truth_in : Scalar → Bool
truth_in (Or c) = c
truth_in (And c) = c
truth_in s = false

abbrev pub mean_of : Mean → ℤ × ℕ
mean_of m = (sum_of m.sum, count_of m.count)

abbrev pub mean_in : Scalar → ℤ × ℕ
mean_in (Avg c) = mean_of c
mean_in s = (pos 0, 0)

-- the content of a scalar as one of a kind
abbrev pub content : (k : Accum) → Scalar → Holds k
content (SumAccum n) s = number_in s
content (MinAccum n) s = number_in s
content (MaxAccum n) s = number_in s
content OrAccum s = truth_in s
content AndAccum s = truth_in s
content BitwiseOrAccum s = number_in s
content BitwiseAndAccum s = number_in s
content AvgAccum s = mean_in s
content k s = fresh k

-- a value as an input
abbrev pub alone : Value → Given
alone v = One (val v)

-- a scalar of this kind before any input
pub record IsFresh (k : Accum) (s : Scalar) : Type 0 where
  pub kept : kind_of s ≡ k
  pub opening : content k s ≡ fresh k

-- fewer than 2^62 numbers add up to this
abbrev pub IsFar : ℤ → Type 0
IsFar a = (f : ℕ) × (f < 2 ^ 62) × (nat_abs a ≤ f * 2 ^ 64)
