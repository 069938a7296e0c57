use Rattle.std.proofs.Common.{length, get_or, sym, ap, arith}
use Rattle.gq_time.proofs.DigitLemmas.{digits-zero, digits_byte, digits_step, few_digits, digit_fits}
use Rattle.gq_time.proofs.numbers.number.Goals as goal

pub loop-byte-init : goal.loop-byte-init
loop-byte-init c = (sym (digits-zero 0), omega arith)

pub returns-then-not-is_ascii_digit-clause-none : goal.returns-then-not-is_ascii_digit-clause-none
returns-then-not-is_ascii_digit-clause-none c n e =
    let byte = digits_byte (length c.args.text.now) n c.loop-byte.byte-index (omega arith) in
    let same = ap (λ l. get_or l c.loop-byte.byte-index 0) e in
    grind (arith, byte, same, c.if-not-is_ascii_digit.ensures.cases)

pub overflow_mul-number : goal.overflow_mul-number
overflow_mul-number c =
    omega (arith, few_digits c.loop-byte.byte-index c.loop-byte.number (omega arith) c.loop-byte.invariant.1)

pub overflow_add-number : goal.overflow_add-number
overflow_add-number c =
    let test = c.if-not-is_ascii_digit.ensures.cases in
    omega (arith, few_digits c.loop-byte.byte-index c.loop-byte.number (omega arith) c.loop-byte.invariant.1)

pub loop-byte-preserved : goal.loop-byte-preserved
loop-byte-preserved c =
    let test = c.if-not-is_ascii_digit.ensures.cases in (
      digits_step c.args.text.now c.loop-byte.byte-index c.loop-byte.number c.from.result (omega arith) c.loop-byte.invariant.0 test.0 test.1 c.from.ensures,
      digit_fits c.loop-byte.byte-index c.loop-byte.number c.from.result c.loop-byte.invariant.1 (omega arith),
    )
