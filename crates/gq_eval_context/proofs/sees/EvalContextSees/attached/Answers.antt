use Rattle.gq_rules_calendar.specs.Gregorian.{gregorian}
use Rattle.gq_eval_context.proofs.SeesLemmas.{reads_now}
use Rattle.gq_eval_context.proofs.sees.EvalContextSees.attached.Goals as goal

pub returns-clause-seen : goal.returns-clause-seen
returns-clause-seen c = reads_now gregorian c.args.self.now _ c.args.slot c.args.vertex c.read_target.result c.self.view_is c.read_target.ensures.read
