use Rattle.gq_load_csv.proofs.DigitLemmas.{own_short, text_short}
use Rattle.std.proofs.Common.{sym}
use Rattle.gq_load_csv.proofs.numbers.own_text.Goals as goal

pub from_utf8_unchecked-requires : goal.from_utf8_unchecked-requires
from_utf8_unchecked-requires c = text_short c.args.text.now c.in-Some.field-0 c.in-Some.ensures

pub returns-in-Some : goal.returns-in-Some
returns-in-Some c =
    (c.from_utf8_unchecked.ensures, own_short c.args.text.now c.in-Some.field-0 c.in-Some.ensures (sym c.if-has_leading_zero.ensures))
