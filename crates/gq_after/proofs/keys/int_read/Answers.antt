use Rattle.gq_rules_calendar.specs.Gregorian.{gregorian}
use Rattle.gq_plan_ir.specs.ExprView.{view}
use Rattle.gq_after.proofs.ReadLemmas.{int_read}
use Rattle.gq_after.proofs.keys.int_read.Goals as goal

pub returns-else-before : goal.returns-else-before
returns-else-before c =
    int_read gregorian c.args.over.now c.args.leaves.now c.args.accums.now c.args.end.now c.args.vertex (view c.args.expr.now) c.requires.reads (c.requires.lacks c.if-before.false) c.int_at.result c.int_at.ensures
