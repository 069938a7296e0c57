-- Tells: when a returned fault is the refusal that is due, or OutOfMemory instead.
use Rattle.std.specs.Prelude.{◌≡◌, ◌≢◌}
use Rattle.gq_load_check.specs.declared.fault.JobFault.{JobFault}
use Rattle.gq_load_check.specs.declared.fault.JobFault.TheVariants as fault

-- the fault is the one that is due, unless it is OutOfMemory
abbrev pub Tells : JobFault → JobFault → Type 0
Tells due found = found ≢ fault.OutOfMemory → found ≡ due
