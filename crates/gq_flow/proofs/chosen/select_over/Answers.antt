use Rattle.std.proofs.Common.{subst}
use Rattle.gq_rules_calendar.specs.Gregorian.{gregorian}
use Rattle.gq_eval_context.specs.Viewed.{Over}
use Rattle.gq_flow.specs.Selecting.{Selects}
use Rattle.gq_flow.proofs.chosen.select_over.Goals as goal

pub returns-clause-selects : goal.returns-clause-selects
returns-clause-selects g c = subst (λ (o : Over). Selects gregorian o c.args.block.now c.select.result) c.block_context-over.ensures c.select.ensures.selects
