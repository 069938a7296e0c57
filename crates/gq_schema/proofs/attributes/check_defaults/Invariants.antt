use Rattle.std.proofs.Common.{◌≡◌, drop}
use Rattle.gq_schema.specs.Refusals.{bad_default}
use Rattle.gq_schema.proofs.attributes.check_defaults.Given as goal

abbrev pub invariant-loop-attribute : goal.invariant-loop-attribute
invariant-loop-attribute l = bad_default l.attributes ≡ bad_default (drop l.attribute-index l.attributes)
