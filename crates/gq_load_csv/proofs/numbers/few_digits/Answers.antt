use Rattle.std.proofs.Common.{ℕ, ◌+◌, ◌*◌, ◌^◌, ◌<◌, ◌-◌, arith, rules}
use Rattle.std.specs.Int.{IsInRange}
use Rattle.std.specs.Prelude.{slice_index}
use Rattle.gq_load_csv.proofs.DigitLemmas.{no_overflow, all_read}
use Rattle.gq_load_csv.proofs.numbers.few_digits.Goals as goal

pub overflow_mul-number : goal.overflow_mul-number
overflow_mul-number c =
    let bound : c.loop-byte.number * 10 + 0 < 10 ^ 18 = no_overflow c.args.text.now c.loop-byte.byte-index c.loop-byte.number 0 c.loop-byte.invariant (omega arith) (omega arith) in
    omega (arith, bound)

pub overflow_add-number : goal.overflow_add-number
overflow_add-number c =
    let digit : IsInRange 48 57 (slice_index c.args.text.now c.loop-byte.byte-index) = search rules in
    let d : ℕ = slice_index c.args.text.now c.loop-byte.byte-index - 48 in
    let bound : c.loop-byte.number * 10 + d < 10 ^ 18 = no_overflow c.args.text.now c.loop-byte.byte-index c.loop-byte.number d c.loop-byte.invariant (omega arith) (omega (arith, digit.0, digit.1)) in
    omega (arith, bound)

pub returns : goal.returns
returns c = all_read c.args.text.now c.loop-byte.byte-index c.loop-byte.number c.loop-byte.invariant (omega arith) (omega arith)
