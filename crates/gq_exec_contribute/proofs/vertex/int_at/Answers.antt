use Rattle.std.proofs.Common.{IfSome, subst}
use Rattle.gq_rules_calendar.specs.Gregorian.{gregorian}
use Rattle.gq_graph.specs.declared.rows.Candidate.{Candidate}
use Rattle.gq_plan_ir.specs.ExprView.{view}
use Rattle.gq_exec_contribute.specs.Prepared.{IsInt, sees_in}
use Rattle.gq_exec_contribute.proofs.vertex.int_at.Goals as goal

pub returns : goal.returns
returns c = subst (λ (x : Candidate). IfSome c.read_int.result (IsInt (sees_in gregorian c.args.over.now c.args.leaves.now c.args.accums.now x) (view c.args.expr.now))) c.only_source-c.ensures c.read_int.ensures
