use Rattle.gq_tree.specs.Tree as tree
use Rattle.gq_plan_ir.specs.ExprView.{view, view_parts}
use Rattle.gq_exec_contribute.proofs.FilterLemmas.{filter_moved, held_made, not_made}
use Rattle.gq_exec_contribute.proofs.NameLemmas.{cmp_view, not_view, post_view}
use Rattle.gq_exec_contribute.proofs.filters.resolved.Goals as goal

pub returns-in-Cmp : goal.returns-in-Cmp
returns-in-Cmp c = filter_moved c.args.leaves.now _ _ c.compared_of.result (cmp_view c.args.expr.now c.in-Cmp.left c.get.result.now c.in-Cmp.right c.get-in-Cmp.result.now c.in-Cmp.sign c.in-Cmp.is c.get.ensures c.get-in-Cmp.ensures) c.compared_of.ensures

pub returns-in-Some : goal.returns-in-Some
returns-in-Some c = not_made c.args.leaves.now c.in-Not.count (view c.args.expr.now) (view c.get-in-Not.result.now) c.in-Some.at (not_view c.args.expr.now c.in-Not.operand c.get-in-Not.result.now c.in-Not.count c.in-Not.is c.get-in-Not.ensures) c.in-Some.ensures

pub returns-in-Some-end_behind : goal.returns-in-Some-end_behind
returns-in-Some-end_behind c =
    held_made c.args.leaves.now (view c.args.expr.now) (tree.Post (view c.get-in-Post.result.now) (view_parts c.as_slice.result.now)) c.in-Some-end_behind.at (post_view c.args.expr.now c.in-Post.first c.get-in-Post.result.now c.in-Post.parts c.as_slice.result.now c.in-Post.is c.get-in-Post.ensures c.as_slice.ensures) c.in-Some-end_behind.ensures
