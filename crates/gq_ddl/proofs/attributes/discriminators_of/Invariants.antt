use Rattle.std.proofs.Common.{◌≡◌, map, take}
use Rattle.gq_ddl.specs.Attributes.{discriminator_of}
use Rattle.gq_ddl.proofs.attributes.discriminators_of.Given as goal

abbrev pub invariant-loop-name : goal.invariant-loop-name
invariant-loop-name l = l.attributes ≡ map discriminator_of (take l.name-index l.trees)
