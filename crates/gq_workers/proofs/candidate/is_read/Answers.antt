use Rattle.gq_rules_calendar.specs.Gregorian.{gregorian}
use Rattle.gq_workers.proofs.ComesLemmas.{read_filtered}
use Rattle.gq_workers.proofs.candidate.is_read.Goals as goal

pub returns-in-Some-false : goal.returns-in-Some-false
returns-in-Some-false c = read_filtered gregorian c.args.over.now c.args.work.now.leaves c.args.work.now.block.now c.args.candidate.now c.args.found.now c.in-Some-false.field-0 c.in-Some-false.field-0-test c.in-Some-false.ensures c.requires.shaped
