use Rattle.std.proofs.Common.{refl}
use Rattle.gq_rules_calendar.specs.Gregorian.{gregorian}
use Rattle.gq_plan_ir.specs.ExprView.{view}
use Rattle.gq_exec_contribute.specs.Prepared.{sees_in}
use Rattle.gq_exec_contribute.proofs.FedLemmas.{tuple_fed}
use Rattle.gq_exec_contribute.proofs.reading.read_tuple.Goals as goal

pub returns : goal.returns
returns c = λ t. tuple_fed (sees_in gregorian c.args.over.now c.args.leaves.now c.args.accums.now c.args.c.now) (view c.args.expr.now) c.args.count c.add_tuple.new.row (c.if-not-add_tuple.ensures refl)
