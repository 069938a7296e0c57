use Rattle.gq_rules_calendar.specs.Gregorian.{gregorian}
use Rattle.gq_tree.specs.Tree as tree
use Rattle.gq_plan_ir.specs.ExprView.{view, view_parts}
use Rattle.gq_exec_contribute.proofs.AskedLemmas.{begun_int}
use Rattle.gq_exec_contribute.proofs.asked.int_of_parts.Goals as goal

pub returns-in-Some : goal.returns-in-Some
returns-in-Some c =
    begun_int gregorian c.args.over.now c.args.leaves.now c.args.accums.now c.args.c.now (tree.Post (view c.args.first.now) (view_parts c.args.parts.now)) c.in-Some.at c.int_asked.result c.in-Some.ensures c.int_asked.ensures
