-- FreshSteps: the result of `Scalar::fresh` for each kind.
use Rattle.std.proofs.Common.{◌≡◌, ℕ, ℤ, ap₂, pos, negsuc, true, false, refl, sym, ap, ◌∙◌, subst}
use Rattle.gq_value.specs.declared.kind.Number.{Number}
use Rattle.gq_value.specs.declared.kind.Number.TheVariants as number
use Rattle.gq_value.specs.declared.kind.Kind.{Kind}
use Rattle.gq_value.specs.declared.kind.Kind.TheVariants as kind
use Rattle.gq_value.specs.Accums.{Accum, SumAccum, MinAccum, MaxAccum, OrAccum, AndAccum, BitwiseOrAccum, BitwiseAndAccum, AvgAccum}
use Rattle.gq_value.specs.AccumViews.{accum_of}
use Rattle.gq_value.proofs.AccumLemmas.{accum_of-Sum, accum_of-Min, accum_of-Max, accum_of-Or, accum_of-And, accum_of-BitOr, accum_of-BitAnd, accum_of-Avg}
use Rattle.gq_accum.specs.declared.scalar.Scalar.{Scalar}
use Rattle.gq_accum.specs.declared.scalar.Scalar.TheVariants.{SumInt, SumUInt, MinInt, MinUInt, MaxInt, MaxUInt, Or, And, BitOr, BitAnd, Avg}
use Rattle.gq_accum.specs.declared.wide.Count.{Count}
use Rattle.gq_accum.specs.declared.wide.Sum.{Sum}
use Rattle.gq_accum.specs.Scalars.{IsFresh}
use Rattle.gq_accum.specs.Wide.{count_of, sum_of}

at_kind : (k k0 : Accum) (s : Scalar) → k ≡ k0 → IsFresh k0 s → IsFresh k s
at_kind k k0 s e h = subst (λ (a : Accum). IsFresh a s) (sym e) h

pub fresh_sum_int : (k : Kind) (n : Number) (s : Sum) → k ≡ kind.Sum n → n ≡ number.Int → sum_of s ≡ pos 0 → IsFresh (accum_of k) (SumInt s)
fresh_sum_int k n s e f z = at_kind _ (SumAccum number.Int) _ (ap accum_of e ∙ accum_of-Sum n ∙ ap SumAccum f) (record { kept = refl; opening = z })

pub fresh_sum_uint : (k : Kind) (n : Number) (s : Sum) → k ≡ kind.Sum n → n ≡ number.UInt → sum_of s ≡ pos 0 → IsFresh (accum_of k) (SumUInt s)
fresh_sum_uint k n s e f z = at_kind _ (SumAccum number.UInt) _ (ap accum_of e ∙ accum_of-Sum n ∙ ap SumAccum f) (record { kept = refl; opening = z })

pub fresh_min_int : (k : Kind) (n : Number) → k ≡ kind.Min n → n ≡ number.Int → IsFresh (accum_of k) (MinInt (pos 9223372036854775807))
fresh_min_int k n e f = at_kind _ (MinAccum number.Int) _ (ap accum_of e ∙ accum_of-Min n ∙ ap MinAccum f) (record { kept = refl; opening = refl })

pub fresh_min_uint : (k : Kind) (n : Number) → k ≡ kind.Min n → n ≡ number.UInt → IsFresh (accum_of k) (MinUInt 18446744073709551615)
fresh_min_uint k n e f = at_kind _ (MinAccum number.UInt) _ (ap accum_of e ∙ accum_of-Min n ∙ ap MinAccum f) (record { kept = refl; opening = refl })

pub fresh_max_int : (k : Kind) (n : Number) → k ≡ kind.Max n → n ≡ number.Int → IsFresh (accum_of k) (MaxInt (negsuc 9223372036854775807))
fresh_max_int k n e f = at_kind _ (MaxAccum number.Int) _ (ap accum_of e ∙ accum_of-Max n ∙ ap MaxAccum f) (record { kept = refl; opening = refl })

pub fresh_max_uint : (k : Kind) (n : Number) → k ≡ kind.Max n → n ≡ number.UInt → IsFresh (accum_of k) (MaxUInt 0)
fresh_max_uint k n e f = at_kind _ (MaxAccum number.UInt) _ (ap accum_of e ∙ accum_of-Max n ∙ ap MaxAccum f) (record { kept = refl; opening = refl })

pub fresh_or : (k : Kind) → k ≡ kind.Or → IsFresh (accum_of k) (Or false)
fresh_or k e = at_kind _ OrAccum _ (ap accum_of e ∙ accum_of-Or) (record { kept = refl; opening = refl })

pub fresh_and : (k : Kind) → k ≡ kind.And → IsFresh (accum_of k) (And true)
fresh_and k e = at_kind _ AndAccum _ (ap accum_of e ∙ accum_of-And) (record { kept = refl; opening = refl })

pub fresh_bit_or : (k : Kind) → k ≡ kind.BitOr → IsFresh (accum_of k) (BitOr (pos 0))
fresh_bit_or k e = at_kind _ BitwiseOrAccum _ (ap accum_of e ∙ accum_of-BitOr) (record { kept = refl; opening = refl })

pub fresh_bit_and : (k : Kind) → k ≡ kind.BitAnd → IsFresh (accum_of k) (BitAnd (negsuc 0))
fresh_bit_and k e = at_kind _ BitwiseAndAccum _ (ap accum_of e ∙ accum_of-BitAnd) (record { kept = refl; opening = refl })

pub fresh_avg : (k : Kind) (s : Sum) (n : Count) → k ≡ kind.Avg → sum_of s ≡ pos 0 → count_of n ≡ 0 → IsFresh (accum_of k) (Avg (record { sum = s; count = n }))
fresh_avg k s n e z o = at_kind _ AvgAccum _ (ap accum_of e ∙ accum_of-Avg) (record { kept = refl; opening = ap₂ (λ (a : ℤ) (b : ℕ). (a, b)) z o })

pub ruleset fresh_steps = (fresh_sum_int, fresh_sum_uint, fresh_min_int, fresh_min_uint, fresh_max_int, fresh_max_uint, fresh_or, fresh_and, fresh_bit_or, fresh_bit_and, fresh_avg)
