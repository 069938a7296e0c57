use Rattle.gq_value.proofs.ArithmeticLemmas.{not_zero, rest_answer}
use Rattle.gq_value.proofs.arithmetic.rem.Goals as goal

pub returns : goal.returns
returns c =
    let e = rest_answer c.type_of_both.result c.in_type.result c.whole.result c.whole-divisor.result c.whole.ensures.wide c.whole-divisor.ensures.wide c.in_type.ensures in
    rw (← c.whole.ensures.value, ← c.whole-divisor.ensures.value, ← c.type_of_both.ensures, not_zero c.whole-divisor.result c.if-divisor-eq0.false) e
