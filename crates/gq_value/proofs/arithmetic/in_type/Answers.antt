use Rattle.std.proofs.lemmas.Int.{to_z-of_z}
use Rattle.gq_value.proofs.ArithmeticLemmas.{int_answer, uint_answer}
use Rattle.gq_value.proofs.arithmetic.in_type.Goals as goal

pub returns-in-Ok : goal.returns-in-Ok
returns-in-Ok c =
    let h = c.ranges.number in
    let e = simp to_z-of_z at c.in-Ok.ensures in
    int_answer c.args.kind c.args.number c.in-Ok.x c.in-Int.is e.0 e.1

pub returns-in-Ok-try_from : goal.returns-in-Ok-try_from
returns-in-Ok-try_from c =
    let h = c.ranges.number in
    let e = simp to_z-of_z at c.in-Ok-try_from.ensures in
    uint_answer c.args.kind c.args.number c.in-Ok-try_from.x c.in-UInt.is e.0.0 e.0.1 e.1
