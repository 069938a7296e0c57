use Rattle.std.proofs.Common.{ap, subst, sym}
use Rattle.gq_rules_calendar.specs.Gregorian.{gregorian}
use Rattle.gq_frame.specs.declared.accums.Accums.{Accums}
use Rattle.gq_plan_ir.specs.BlockView.{view_feed}
use Rattle.gq_eval_context.specs.Viewed.{Over}
use Rattle.gq_exec_contribute.specs.Prepared.{AreAllCells, IsFed, sees_in}
use Rattle.gq_exec_contribute.proofs.gathering.read_before.Goals as goal

-- the accumulators of the context are those of the frame that it shows
pub read-requires : goal.read-requires
read-requires c = record {
  cells = subst (λ (o : Over). AreAllCells o.frame.accums.slots c.args.leaves.now.cells) (sym c.over.view_is) c.requires.cells;
  sound = c.over.invariant.accums;
}

pub returns : goal.returns
returns c = λ t. subst (λ (a : Accums). IsFed (sees_in gregorian c.args.over.now c.args.leaves.now a c.args.c.now) (view_feed c.args.feed.now) c.args.takes c.read.new.input) (ap (λ (o : Over). o.frame.accums) c.over.view_is) (c.read.ensures t)
