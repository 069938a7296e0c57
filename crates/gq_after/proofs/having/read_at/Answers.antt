use Rattle.std.proofs.Common.{sym, ◌∙◌}
use Rattle.gq_rules_calendar.specs.Gregorian.{gregorian}
use Rattle.gq_plan_ir.specs.ExprView.{view}
use Rattle.gq_after.proofs.ReadLemmas.{truth_read}
use Rattle.gq_after.proofs.having.read_at.Goals as goal

pub returns-else-before : goal.returns-else-before
returns-else-before c =
    truth_read gregorian c.args.over.now c.args.leaves.now c.args.accums.now c.args.end.now c.args.vertex (view c.args.expr.now) c.requires.reads (sym c.requires.has ∙ c.if-before.false) c.truth_at.result c.truth_at.ensures
