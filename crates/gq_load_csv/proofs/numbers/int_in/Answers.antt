use Rattle.std.proofs.Common.{Some, ap, sym, ◌∙◌, arith}
use Rattle.std.proofs.lemmas.Int.{ints}
use Rattle.gq_load_csv.proofs.DigitLemmas.{int_short}
use Rattle.gq_load_csv.proofs.numbers.int_in.Goals as goal

pub returns-in-Some : goal.returns-in-Some
returns-in-Some c =
    ap (λ z. Some z) (omega (arith, ints, c.in-Some.ensures.fits)) ∙ sym (int_short c.args.text.now c.in-Some.number c.in-Some.ensures)
