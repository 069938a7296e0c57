-- Reads: the value of a content, and the content that is set to a value.
-- These are of kinds that hold one number, truth or average. The others have no single value.
use Rattle.std.specs.Prelude.{ℕ, zero, suc, ℤ, pos}
use Rattle.gq_value.specs.Val.{Val, Int, Truth, Tuple, Fraction, none}
use Rattle.gq_value.specs.Accums.{Accum, SumAccum, MinAccum, MaxAccum, OrAccum, AndAccum, BitwiseOrAccum, BitwiseAndAccum, AvgAccum}
use Rattle.gq_accum_laws.specs.Holds.{Holds}
use Rattle.gq_accum_laws.specs.Inputs.{truth}
use Rattle.gq_value.specs.Arithmetic.{whole, as_type}
use Rattle.gq_accum_laws.specs.After.{fresh}

-- an average as an exact fraction, 0 over 1 if nothing was counted
abbrev pub average : ℤ → ℕ → Val
average s zero = Fraction (pos 0) 1
average s (suc n) = Fraction s (suc n)

-- the value of a content
abbrev pub value_in : (k : Accum) → Holds k → Val
value_in (SumAccum n) c = as_type n c
value_in (MinAccum n) c = as_type n c
value_in (MaxAccum n) c = as_type n c
value_in OrAccum c = Truth c
value_in AndAccum c = Truth c
value_in BitwiseOrAccum c = Int c
value_in BitwiseAndAccum c = Int c
value_in AvgAccum c = average c.0 c.1
value_in _ c = Tuple none

-- the content that `=` makes of a value
abbrev pub set_to : (k : Accum) → Val → Holds k
set_to (SumAccum n) v = whole v
set_to (MinAccum n) v = whole v
set_to (MaxAccum n) v = whole v
set_to OrAccum v = truth v
set_to AndAccum v = truth v
set_to BitwiseOrAccum v = whole v
set_to BitwiseAndAccum v = whole v
set_to k v = fresh k
