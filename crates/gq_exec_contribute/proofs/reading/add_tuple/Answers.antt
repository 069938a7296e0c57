use Rattle.std.proofs.Common.{subst, sym}
use Rattle.gq_tree.specs.Tree.{Tree}
use Rattle.gq_rules_calendar.specs.Gregorian.{gregorian}
use Rattle.gq_plan_ir.specs.Reference.{Reference}
use Rattle.gq_exec_contribute.specs.Prepared.{IsTuple, sees_in}
use Rattle.gq_exec_contribute.proofs.FedLemmas.{call_view}
use Rattle.gq_exec_contribute.proofs.reading.add_tuple.Goals as goal

pub returns-in-Tuple : goal.returns-in-Tuple
returns-in-Tuple c = λ t. subst (λ (e : Tree Reference). IsTuple (sees_in gregorian c.args.over.now c.args.leaves.now c.args.accums.now c.args.c.now) e c.args.count c.add_fields.new.row) (sym (call_view c.args.expr.now c.in-Call.function c.in-Call.fields c.as_slice.result.now c.in-Tuple.number c.in-Tuple.field-1 c.in-Call.is c.in-Tuple.is c.as_slice.ensures)) (c.add_fields.ensures t)
