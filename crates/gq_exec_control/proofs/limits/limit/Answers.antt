use Rattle.std.proofs.Common.{Some}
use Rattle.gq_rules_meaning.specs.Expressions.{number_of}
use Rattle.gq_rules_calendar.specs.Gregorian.{gregorian}
use Rattle.gq_plan_ir.specs.ExprView.{view}
use Rattle.gq_exec_control.proofs.ContextLemmas.{reads_on}
use Rattle.gq_exec_control.proofs.LimitLemmas.{some_of, tells_some}
use Rattle.gq_exec_control.specs.Contexts.{look_on}
use Rattle.gq_exec_control.proofs.limits.limit.Goals as goal

pub returns : goal.returns
returns c =
    reads_on gregorian c.args.context.now c.args.frame.now Some (λ look. some_of (number_of look (view c.args.limit.now))) c.limit_over.result c.or_fault.result
    (tells_some (number_of (look_on gregorian c.args.context.now c.args.frame.now) (view c.args.limit.now)) c.limit_over.result c.limit_over.ensures) c.or_fault.ensures
