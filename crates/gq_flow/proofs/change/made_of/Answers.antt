use Rattle.std.proofs.Common.{subst}
use Rattle.gq_value.specs.AccumViews.{accum_of}
use Rattle.gq_rules_meaning.specs.Writes.{made_by}
use Rattle.gq_rules_calendar.specs.Gregorian.{gregorian}
use Rattle.gq_plan_ir.specs.BlockView.{view_change}
use Rattle.gq_eval_operand.specs.Meant.{Tells}
use Rattle.gq_eval_context.specs.Viewed.{Viewed}
use Rattle.gq_eval_context.specs.Looks.{look_of}
use Rattle.gq_exec_post.specs.Making.{making_of}
use Rattle.gq_flow.proofs.change.made_of.Goals as goal

pub returns : goal.returns
returns c = subst (λ (v : Viewed). Tells making_of (made_by (look_of gregorian v) (accum_of c.args.kind.now) (view_change c.args.change.now)) c.made_by.result) c.eval_context-sight.ensures c.made_by.ensures
