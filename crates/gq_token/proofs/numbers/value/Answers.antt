-- An overflow at some digit makes the whole number too big, since later digits don't make it smaller.
use Rattle.std.proofs.Common.{◌+◌, arith}
use Rattle.gq_token.proofs.DigitLemmas.{number_of-take-le, number_of_more}
use Rattle.gq_token.proofs.numbers.value.Goals as goal

pub returns-in-None : goal.returns-in-None
returns-in-None c = λ fits.
    c.in-None.ensures (omega (arith, number_of_more c.args.digits.now c.loop-digit.digit-index (omega arith), number_of-take-le (c.loop-digit.digit-index + 1) c.args.digits.now))

pub returns-in-None-checked_add : goal.returns-in-None-checked_add
returns-in-None-checked_add c = λ fits.
    c.in-None-checked_add.ensures
    (omega (arith, c.in-Some.ensures, number_of_more c.args.digits.now c.loop-digit.digit-index (omega arith), number_of-take-le (c.loop-digit.digit-index + 1) c.args.digits.now))
