-- Tells: when a returned fault is the expected refusal, or OutOfMemory while its name was copied.
use Rattle.std.specs.Prelude.{◌≡◌}
use Rattle.gq_diagnostics.specs.declared.refusal.Refusal.{Refusal}
use Rattle.gq_diagnostics.specs.declared.refusal.StatementFault.{StatementFault}
use Rattle.gq_diagnostics.specs.declared.refusal.StatementFault.TheVariants as fault

-- the fault is this refusal, or OutOfMemory
abbrev pub Tells : Refusal → StatementFault → Type 0
Tells due (fault.Refused found) = found ≡ due
Tells due fault.ReadFault = ⊥
Tells due fault.OutOfMemory = Unit {0}
