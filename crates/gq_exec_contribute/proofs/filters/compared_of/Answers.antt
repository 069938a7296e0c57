use Rattle.gq_plan_ir.specs.ExprView.{view}
use Rattle.gq_exec_contribute.proofs.FilterLemmas.{compared_made}
use Rattle.gq_exec_contribute.proofs.filters.compared_of.Goals as goal

pub returns-in-Some-end_cell : goal.returns-in-Some-end_cell
returns-in-Some-end_cell c = compared_made c.args.leaves.now c.args.sign (view c.args.left.now) (view c.args.right.now) c.in-Some.left c.in-Some-end_cell.right c.in-Some.ensures c.in-Some-end_cell.ensures
