use Rattle.gq_value.specs.Arithmetic.{added, IsText}
use Rattle.gq_value.specs.Views.{val}
use Rattle.gq_eval_operand.specs.Meant.{meant, valued}
use Rattle.gq_eval_operand.proofs.OperatorLemmas.{operated}
use Rattle.gq_eval_operand.proofs.operators.sum.Goals as goal

pub returns : goal.returns
returns c = operated meant added (IsText (val c.in_ok-x.x)) (valued c.args.left.now) (val c.in_ok-x.x) (valued c.args.right.now) (val c.in_ok-y.y) c.add.result c.calculated.result c.in_ok-x.ensures.same c.in_ok-y.ensures.same c.add.ensures c.calculated.ensures
