-- Seals: the final value of a content.
use Rattle.std.specs.Prelude.{◌≡◌, true, false, Result, Ok, Err}
use Rattle.gq_value.specs.Accums.{Accum}
use Rattle.gq_value.specs.declared.value.Value.{Value}
use Rattle.gq_value.specs.Views.{val}
use Rattle.gq_accum_laws.specs.Holds.{Holds}
use Rattle.gq_accum_laws.specs.Fits.{fits}
use Rattle.gq_accum_laws.specs.Reads.{value_in}
use Rattle.gq_accum.specs.declared.scalar.OutOfRange.{OutOfRange}

-- its value if it fits, and only then
abbrev pub Seals : (k : Accum) → Holds k → Result Value OutOfRange → Type 0
Seals k c (Ok v) = (fits k c ≡ true) × (val v ≡ value_in k c)
Seals k c (Err e) = fits k c ≡ false
