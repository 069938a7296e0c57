use Rattle.gq_type.proofs.CallLemmas.{third_none}
use Rattle.gq_type.proofs.functions.third_text.Goals as goal

pub returns-else-arguments-eq3 : goal.returns-else-arguments-eq3
returns-else-arguments-eq3 c = third_none c.args.arguments.now c.if-arguments-eq3.false
