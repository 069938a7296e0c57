use Rattle.gq_rules_calendar.specs.Gregorian.{gregorian}
use Rattle.gq_exec_contribute.specs.Prepared.{IsInt, sees_in}
use Rattle.gq_exec_contribute.proofs.NameLemmas.{int_name, moved, name_view, post_view}
use Rattle.gq_exec_contribute.proofs.ints.short_int.Goals as goal

pub returns-in-Post : goal.returns-in-Post
returns-in-Post c = moved (IsInt (sees_in gregorian c.args.over.now c.args.leaves.now c.args.accums.now c.args.c.now)) _ _ c.int_behind.result (post_view c.args.expr.now c.in-Post.first c.get.result.now c.in-Post.parts c.as_slice.result.now c.in-Post.is c.get.ensures c.as_slice.ensures) c.int_behind.ensures

pub returns-in-Name : goal.returns-in-Name
returns-in-Name c = moved (IsInt (sees_in gregorian c.args.over.now c.args.leaves.now c.args.accums.now c.args.c.now)) _ _ c.variable_int.result (name_view c.args.expr.now c.in-Name.place c.in-Name.is) (int_name gregorian c.args.over.now c.args.leaves.now c.args.accums.now c.args.c.now c.in-Name.place c.variable_int.result c.variable_int.ensures)
