use Rattle.std.proofs.Common.{ap, subst, sym}
use Rattle.std.specs.Option.{option_map}
use Rattle.gq_rules_calendar.specs.Gregorian.{gregorian}
use Rattle.gq_frame.specs.declared.accums.Accums.{Accums}
use Rattle.gq_plan_ir.specs.ExprView.{view}
use Rattle.gq_eval_context.specs.Viewed.{Over}
use Rattle.gq_exec_contribute.specs.Columns.{IsColumn}
use Rattle.gq_exec_contribute.specs.Filters.{filter_tree}
use Rattle.gq_exec_contribute.specs.Prepared.{AreAllCells, IsTruth, sees, sees_in}
use Rattle.gq_exec_contribute.proofs.FilterLemmas.{filter_there, passed}
use Rattle.gq_exec_contribute.proofs.filters.passes_by.Goals as goal

-- the accumulators of the context are those of the frame that it shows
pub decided-requires : goal.decided-requires
decided-requires c = record {
  found = record {
    cells = subst (λ (o : Over). AreAllCells o.frame.accums.slots c.args.leaves.now.cells) (sym c.over.view_is) c.requires.found.cells;
    sound = c.over.invariant.accums;
  };
  column = subst (λ (o : Over). IsColumn o.frame.accums c.args.column.now) (sym c.over.view_is) c.requires.column;
  ends = (filter_there c.args.leaves.now (option_map view c.args.expr.now) c.args.filter.now c.in-Some.filter c.in-Some.is c.requires.resolved).ends;
}

pub returns-in-Some-decided : goal.returns-in-Some-decided
returns-in-Some-decided c = passed (sees gregorian c.args.over.now c.args.leaves.now c.args.c.now) c.args.leaves.now (option_map view c.args.expr.now) c.in-Some.filter c.in-Some-decided.holds
    (filter_there c.args.leaves.now (option_map view c.args.expr.now) c.args.filter.now c.in-Some.filter c.in-Some.is c.requires.resolved)
    (subst (λ (a : Accums). IsTruth (sees_in gregorian c.args.over.now c.args.leaves.now a c.args.c.now) (filter_tree c.in-Some.filter) c.in-Some-decided.holds) (ap (λ (o : Over). o.frame.accums) c.over.view_is) c.in-Some-decided.ensures)
