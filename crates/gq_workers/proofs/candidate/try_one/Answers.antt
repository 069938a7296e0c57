use Rattle.gq_rules_calendar.specs.Gregorian.{gregorian}
use Rattle.gq_workers.specs.Running.{come}
use Rattle.gq_workers.proofs.ComesLemmas.{done_same}
use Rattle.gq_workers.proofs.FoundLemmas.{tried_behind}
use Rattle.gq_workers.proofs.candidate.try_one.Goals as goal

pub returns-clause-tried : goal.returns-clause-tried
returns-clause-tried c = tried_behind c.args.over.now (come gregorian c.args.over.now c.args.work.now c.args.candidate.now) c.args.found.now c.is_read.new.found c.settle.new.self c.try_candidate.new.found c.try_candidate.result
    (done_same c.args.over.now (come gregorian c.args.over.now c.args.work.now c.args.candidate.now) c.args.found.now c.is_read.new.found c.in_ok-is_read.field-0 c.if-branch.false c.in_ok-is_read.ensures) c.in_ok-settle.ensures.kept c.try_candidate.ensures.tried
