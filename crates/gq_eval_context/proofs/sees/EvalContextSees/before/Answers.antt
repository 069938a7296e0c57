use Rattle.gq_rules_calendar.specs.Gregorian.{gregorian}
use Rattle.gq_eval_context.proofs.SeesLemmas.{reads_before}
use Rattle.gq_eval_context.proofs.sees.EvalContextSees.before.Goals as goal

pub returns-clause-seen : goal.returns-clause-seen
returns-clause-seen c = reads_before gregorian c.args.self.now _ c.args.slot c.args.vertex c.read_target.result c.self.view_is c.read_target.ensures.read
