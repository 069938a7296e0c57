use Rattle.gq_value.specs.AccumViews.{base_of}
use Rattle.gq_value.specs.Views.{val}
use Rattle.gq_rules_meaning.specs.Expressions.{value_as}
use Rattle.gq_rules_calendar.specs.Gregorian.{gregorian}
use Rattle.gq_plan_ir.specs.ExprView.{view}
use Rattle.gq_exec_control.proofs.ContextLemmas.{reads_on}
use Rattle.gq_flow.proofs.value.converted_value.Goals as goal

pub returns : goal.returns
returns c = reads_on gregorian c.args.context.now c.args.frame.now val (λ look. value_as look (base_of c.args.base.now) (view c.args.expr.now)) c.value_over.result c.or_fault.result c.value_over.ensures c.or_fault.ensures
