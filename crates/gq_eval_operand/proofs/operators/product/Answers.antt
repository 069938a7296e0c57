use Rattle.gq_value.specs.Arithmetic.{divided, remainder}
use Rattle.gq_value.specs.Views.{val}
use Rattle.gq_eval_operand.specs.Meant.{meant, valued}
use Rattle.gq_eval_operand.proofs.OperatorLemmas.{operated}
use Rattle.gq_eval_operand.proofs.operators.product.Goals as goal

pub returns-in-Over : goal.returns-in-Over
returns-in-Over c = rw c.in-Over.is (operated meant divided ⊥ (valued c.args.left.now) (val c.in_ok-x.x) (valued c.args.right.now) (val c.in_ok-y.y) c.div.result c.calculated-in-Over.result c.in_ok-x.ensures.same c.in_ok-y.ensures.same c.div.ensures c.calculated-in-Over.ensures)

pub returns : goal.returns
returns c = rw c.in-Modulo.is (operated meant remainder ⊥ (valued c.args.left.now) (val c.in_ok-x.x) (valued c.args.right.now) (val c.in_ok-y.y) c.rem.result c.calculated-in-Modulo.result c.in_ok-x.ensures.same c.in_ok-y.ensures.same c.rem.ensures c.calculated-in-Modulo.ensures)
