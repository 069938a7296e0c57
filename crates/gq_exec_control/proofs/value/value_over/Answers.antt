use Rattle.std.proofs.Common.{subst}
use Rattle.std.specs.Option.{option_map}
use Rattle.gq_value.specs.AccumViews.{base_of}
use Rattle.gq_value.specs.Views.{val}
use Rattle.gq_rules_meaning.specs.Statements.{local_value}
use Rattle.gq_rules_calendar.specs.Gregorian.{gregorian}
use Rattle.gq_plan_ir.specs.ExprView.{view}
use Rattle.gq_eval_operand.specs.Meant.{Tells}
use Rattle.gq_eval_context.specs.Viewed.{Viewed}
use Rattle.gq_eval_context.specs.Looks.{look_of}
use Rattle.gq_exec_control.proofs.value.value_over.Goals as goal

pub returns : goal.returns
returns c = subst (λ (v : Viewed). Tells val (local_value (look_of gregorian v) (base_of c.args.base.now) (option_map view c.args.local.now)) c.value_seen.result) c.eval_context-sight.ensures c.value_seen.ensures
