use Rattle.std.proofs.Common.{◌≡◌, true, false, refl, sym, arith}
use Rattle.gq_command.proofs.NumberLemmas.{no_digits, too_long, in_range, out_of_range, unread}
use Rattle.gq_command.proofs.number.number_to.Goals.{then-text-gt10-via-then-text-gt10, then-text-gt10-via-else-text-gt10+then-not-has_only_digits}
use Rattle.gq_command.proofs.number.number_to.Goals as goal

pub returns-then-text-gt10-clause-number : goal.returns-then-text-gt10-clause-number
returns-then-text-gt10-clause-number c = elim c.then-text-gt10.branch [
  | then-text-gt10-via-then-text-gt10 w ↦ sym (too_long c.args.most c.args.text.now (omega arith))
  | then-text-gt10-via-else-text-gt10+then-not-has_only_digits w ↦
      sym (no_digits c.args.most c.args.text.now (λ each. let bad : false ≡ true = w.if-not-has_only_digits.ensures.1 each in cc))
]

pub returns-then-number-most-clause-number : goal.returns-then-number-most-clause-number
returns-then-number-most-clause-number c =
    sym (in_range c.args.most c.args.text.now c.in-Ok.number c.in-Ok.ensures.value.0 (c.if-not-has_only_digits.ensures.0 refl) (omega arith) (omega arith) (omega arith))

pub returns-else-number-ge1-clause-number : goal.returns-else-number-ge1-clause-number
returns-else-number-ge1-clause-number c =
    sym (out_of_range c.args.most c.args.text.now c.in-Ok.number c.in-Ok.ensures.value.0 (c.if-not-has_only_digits.ensures.0 refl) c.else-number-ge1.either)

pub returns-in-Err-clause-number : goal.returns-in-Err-clause-number
returns-in-Err-clause-number c =
    sym (unread c.args.most c.args.text.now c.in-Err.field-0 c.in-Err.ensures.value.0 (c.if-not-has_only_digits.ensures.0 refl) (omega arith))
