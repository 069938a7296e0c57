use Rattle.gq_rules_calendar.specs.Gregorian.{gregorian}
use Rattle.gq_flow.proofs.SelectLemmas.{block_goes, block_stops}
use Rattle.gq_flow.proofs.selects.select_among.Goals as goal

pub returns-in-Err-clause-chooses : goal.returns-in-Err-clause-chooses
returns-in-Err-clause-chooses g c = block_stops gregorian c.args.over.now c.args.block.now c.in-Err.fault c.in-Err.ensures.answered

pub returns-in-Ok-clause-chooses : goal.returns-in-Ok-clause-chooses
returns-in-Ok-clause-chooses g c = block_goes gregorian c.args.over.now c.args.block.now c.in-Ok.after c.posted.result c.in-Ok.ensures.answered c.posted.ensures.posts
