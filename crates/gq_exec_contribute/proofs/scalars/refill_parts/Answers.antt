use Rattle.std.proofs.Common.{◌∙◌}
use Rattle.gq_exec_contribute.proofs.ScalarLemmas.{take_none}
use Rattle.gq_exec_contribute.proofs.scalars.refill_parts.Goals as goal

pub loop-x-init : goal.loop-x-init
loop-x-init c = c.truncate.ensures ∙ take_none c.args.parts.now
