-- Tells: when a returned fault is the expected refusal, or OutOfMemory while its name was copied.
use Rattle.std.specs.Prelude.{◌≡◌, ◌≢◌}
use Rattle.gq_schema.specs.declared.fault.SchemaFault.{SchemaFault}
use Rattle.gq_schema.specs.declared.fault.SchemaFault.TheVariants as fault

-- the fault is the expected one, if it isn't OutOfMemory
abbrev pub Tells : SchemaFault → SchemaFault → Type 0
Tells due found = found ≢ fault.OutOfMemory → found ≡ due
