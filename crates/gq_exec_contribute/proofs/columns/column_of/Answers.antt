use Rattle.std.proofs.Common.{ap, subst, sym}
use Rattle.std.specs.Prelude.{IfOk}
use Rattle.gq_eval_context.specs.Viewed.{Over}
use Rattle.gq_exec_contribute.specs.Columns.{IsColumn}
use Rattle.gq_exec_contribute.specs.Prepared.{AreAllCells}
use Rattle.gq_exec_contribute.proofs.columns.column_of.Goals as goal

-- the accumulators of the context are those of the frame that it shows
pub column_in-requires : goal.column_in-requires
column_in-requires c = record {
  sound = c.over.invariant.accums;
  cells = subst (λ (o : Over). AreAllCells o.frame.accums.slots c.args.leaves.now.cells) (sym c.over.view_is) c.requires.cells;
}

pub returns : goal.returns
returns c = subst (λ (o : Over). IfOk c.column_in.result (IsColumn o.frame.accums)) c.over.view_is c.column_in.ensures
