-- Ints: what a scalar is after one more INT.
use Rattle.std.specs.Prelude.{◌≡◌, ℤ, true, [], ◌∷◌}
use Rattle.gq_value.specs.Accums.{One}
use Rattle.gq_value.specs.Val.{Int}
use Rattle.gq_value.specs.Typed.{suits}
use Rattle.gq_accum_laws.specs.After.{after}
use Rattle.gq_accum_laws.specs.Fits.{HasRoom}
use Rattle.gq_accum.specs.declared.scalar.Scalar.{Scalar}
use Rattle.gq_accum.specs.Scalars.{kind_of, content}

-- the scalar takes one more INT, if its kind takes INTs and there is room
pub record AddsInt (old : Scalar) (x : ℤ) (new : Scalar) : Type 0 where
  pub kept : kind_of new ≡ kind_of old
  pub fed : suits (kind_of old) (One (Int x)) ≡ true → HasRoom (kind_of old) (content (kind_of old) old)
      → content (kind_of old) new ≡ after (kind_of old) (content (kind_of old) old) (One (Int x) ∷ [])
