use Rattle.std.proofs.Common.{sym}
use Rattle.gq_load_csv.proofs.DigitLemmas.{uint_short}
use Rattle.gq_load_csv.proofs.numbers.uint_in.Goals as goal

pub returns-in-Some : goal.returns-in-Some
returns-in-Some c = sym (uint_short c.args.text.now c.in-Some.number c.in-Some.ensures)
