use Rattle.gq_value.proofs.ArithmeticLemmas.{sum_answer}
use Rattle.gq_value.proofs.arithmetic.add.Goals as goal

pub returns-in-Int : goal.returns-in-Int
returns-in-Int c = sum_answer c.args.a.now _ c.sum.result c.in-Int.is c.sum.ensures
