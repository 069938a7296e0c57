use Rattle.std.proofs.Common.{Bool}
use Rattle.gq_rules_meaning.specs.Expressions.{truth_of}
use Rattle.gq_rules_calendar.specs.Gregorian.{gregorian}
use Rattle.gq_plan_ir.specs.ExprView.{view}
use Rattle.gq_eval_operand.specs.Meant.{itself}
use Rattle.gq_exec_control.proofs.ContextLemmas.{reads_on}
use Rattle.gq_exec_control.proofs.conditions.truth.Goals as goal

pub returns : goal.returns
returns c = reads_on gregorian c.args.context.now c.args.frame.now (itself {A = Bool}) (λ look. truth_of look (view c.args.condition.now)) c.truth_over.result c.or_fault.result c.truth_over.ensures c.or_fault.ensures
