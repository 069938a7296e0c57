use Rattle.std.proofs.Common.{IfSome, ap, subst, sym}
use Rattle.gq_rules_calendar.specs.Gregorian.{gregorian}
use Rattle.gq_frame.specs.declared.accums.Accums.{Accums}
use Rattle.gq_plan_ir.specs.ExprView.{view}
use Rattle.gq_eval_context.specs.Viewed.{Over}
use Rattle.gq_exec_contribute.specs.Prepared.{AreAllCells, IsTruth, sees_in}
use Rattle.gq_exec_contribute.proofs.truths.truth_before.Goals as goal

-- the accumulators of the context are those of the frame that it shows
pub truth-requires : goal.truth-requires
truth-requires c = record {
  cells = subst (λ (o : Over). AreAllCells o.frame.accums.slots c.args.leaves.now.cells) (sym c.over.view_is) c.requires.cells;
  sound = c.over.invariant.accums;
}

pub returns : goal.returns
returns c = subst (λ (a : Accums). IfSome c.truth.result (IsTruth (sees_in gregorian c.args.over.now c.args.leaves.now a c.args.c.now) (view c.args.expr.now))) (ap (λ (o : Over). o.frame.accums) c.over.view_is) c.truth.ensures
