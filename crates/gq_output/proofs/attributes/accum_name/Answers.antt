use Rattle.std.proofs.Common.{rules}
use Rattle.gq_output.proofs.SlotLemmas.{name_there, name_later}
use Rattle.gq_output.proofs.attributes.accum_name.Goals as goal

pub returns-in-Some : goal.returns-in-Some
returns-in-Some c = name_there c.args.definitions.now c.args.number c.loop-definition.definition-index c.loop-definition.left _ _ c.loop-definition.invariant (search rules) c.definition-item.is c.in-Some.ensures

pub loop-definition-preserved : goal.loop-definition-preserved
loop-definition-preserved c = name_later c.args.definitions.now c.args.number c.loop-definition.definition-index c.loop-definition.left _ _ c.loop-definition.invariant (search rules) c.definition-item.is c.in-None.ensures (search rules)
