-- ScalarLaws: scalar kinds hold no list.
use Rattle.std.specs.Prelude.{◌≡◌, true, refl}
use Rattle.gq_value.specs.Typed.{has_no_list}
use Rattle.gq_accum.specs.declared.scalar.Scalar.{Scalar}
use Rattle.gq_accum.specs.declared.scalar.Scalar.TheVariants.{SumInt, SumUInt, MinInt, MinUInt, MaxInt, MaxUInt, Or, And, BitOr, BitAnd, Avg}
use Rattle.gq_accum.specs.Scalars.{kind_of}

pub no_list : (s : Scalar) → has_no_list (kind_of s) ≡ true
no_list (SumInt c) = refl
no_list (SumUInt c) = refl
no_list (MinInt c) = refl
no_list (MinUInt c) = refl
no_list (MaxInt c) = refl
no_list (MaxUInt c) = refl
no_list (Or c) = refl
no_list (And c) = refl
no_list (BitOr c) = refl
no_list (BitAnd c) = refl
no_list (Avg c) = refl
