use Rattle.std.proofs.Common.{subst, sym}
use Rattle.gq_json.specs.declared.out.Out.{Out}
use Rattle.gq_rules_calendar.specs.Gregorian.{gregorian}
use Rattle.gq_plan_ir.specs.declared.step.PrintItem.{PrintItem}
use Rattle.gq_eval_operand.specs.Meant.{itself, Tells}
use Rattle.gq_output.specs.Items.{value_at}
use Rattle.gq_output.proofs.whole.value_of.Goals as goal

pub returns-in-Value : goal.returns-in-Value
returns-in-Value c = subst (λ (i : PrintItem). Tells (itself {A = Out}) (value_at gregorian c.args.over.now i) c.item_under.result) (sym c.in-Value.is) c.item_under.ensures
