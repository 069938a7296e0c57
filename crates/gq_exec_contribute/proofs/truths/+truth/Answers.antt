use Rattle.std.proofs.Common.{subst, sym}
use Rattle.gq_tree.specs.Tree.{Tree}
use Rattle.gq_rules_calendar.specs.Gregorian.{gregorian}
use Rattle.gq_plan_ir.specs.ExprView.{view, views}
use Rattle.gq_plan_ir.specs.Reference.{Reference}
use Rattle.gq_exec_contribute.specs.Prepared.{IsTruth, sees_in}
use Rattle.gq_exec_contribute.proofs.NameLemmas.{truth_name, moved, name_view, post_view, cmp_view, not_view, and_view, or_view}
use Rattle.gq_exec_contribute.proofs.TruthLemmas.{not_truth, and_truth, or_truth}
use Rattle.gq_exec_contribute.proofs.truths.+truth.Goals as goal

pub joined-returns-in_ok-holds-in-Not : goal.joined-returns-in_ok-holds-in-Not
joined-returns-in_ok-holds-in-Not t c =
    subst (λ (e : Tree Reference). IsTruth (sees_in gregorian c.args.over.now c.args.leaves.now c.args.accums.now c.args.c.now) e c.nots.result) (sym (not_view c.args.expr.now c.in-Not.operand c.get.result.now c.in-Not.count c.in-Not.is c.get.ensures))
    (not_truth (sees_in gregorian c.args.over.now c.args.leaves.now c.args.accums.now c.args.c.now) c.in-Not.count (view c.get.result.now) c.in_ok-holds-in-Not.holds c.nots.result c.in_ok-holds-in-Not.ensures c.nots.ensures)

pub joined-returns-in_ok-holds-in-And : goal.joined-returns-in_ok-holds-in-And
joined-returns-in_ok-holds-in-And t c = moved (IsTruth (sees_in gregorian c.args.over.now c.args.leaves.now c.args.accums.now c.args.c.now)) _ _ c.all.result (and_view c.args.expr.now c.in-And.first c.get-in-And.result.now c.in-And.others c.as_slice.result.now c.in-And.is c.get-in-And.ensures c.as_slice.ensures)
    (and_truth (sees_in gregorian c.args.over.now c.args.leaves.now c.args.accums.now c.args.c.now) (view c.get-in-And.result.now) (views c.as_slice.result.now) c.in_ok-holds-in-And.holds c.all.result c.in_ok-holds-in-And.ensures c.all.ensures)

pub joined-returns-in_ok-holds-in-Or : goal.joined-returns-in_ok-holds-in-Or
joined-returns-in_ok-holds-in-Or t c = moved (IsTruth (sees_in gregorian c.args.over.now c.args.leaves.now c.args.accums.now c.args.c.now)) _ _ c.any.result (or_view c.args.expr.now c.in-Or.first c.get-in-Or.result.now c.in-Or.others c.as_slice-in-Or.result.now c.in-Or.is c.get-in-Or.ensures c.as_slice-in-Or.ensures)
    (or_truth (sees_in gregorian c.args.over.now c.args.leaves.now c.args.accums.now c.args.c.now) (view c.get-in-Or.result.now) (views c.as_slice-in-Or.result.now) c.in_ok-holds-in-Or.holds c.any.result c.in_ok-holds-in-Or.ensures c.any.ensures)

pub truth-returns-in-Cmp : goal.truth-returns-in-Cmp
truth-returns-in-Cmp t c = moved (IsTruth (sees_in gregorian c.args.over.now c.args.leaves.now c.args.accums.now c.args.c.now)) _ _ c.compared.result (cmp_view c.args.expr.now c.in-Cmp.left c.get.result.now c.in-Cmp.right c.get-in-Cmp.result.now c.in-Cmp.sign c.in-Cmp.is c.get.ensures c.get-in-Cmp.ensures) c.compared.ensures

pub truth-returns-in-Post : goal.truth-returns-in-Post
truth-returns-in-Post t c = moved (IsTruth (sees_in gregorian c.args.over.now c.args.leaves.now c.args.accums.now c.args.c.now)) _ _ c.truth_of_parts.result (post_view c.args.expr.now c.in-Post.first c.get-in-Post.result.now c.in-Post.parts c.as_slice.result.now c.in-Post.is c.get-in-Post.ensures c.as_slice.ensures) c.truth_of_parts.ensures

pub truth-returns-in-Name : goal.truth-returns-in-Name
truth-returns-in-Name t c = moved (IsTruth (sees_in gregorian c.args.over.now c.args.leaves.now c.args.accums.now c.args.c.now)) _ _ c.variable_truth.result (name_view c.args.expr.now c.in-Name.place c.in-Name.is) (truth_name gregorian c.args.over.now c.args.leaves.now c.args.accums.now c.args.c.now c.in-Name.place c.variable_truth.result c.variable_truth.ensures)
