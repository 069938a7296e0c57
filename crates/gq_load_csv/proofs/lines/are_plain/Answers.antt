use Rattle.std.proofs.Common.{◌∙◌, sym}
use Rattle.gq_load_csv.proofs.LineLemmas.{no_such, no_quote_or_return, no_return}
use Rattle.gq_load_csv.proofs.lines.are_plain.Goals as goal

pub returns-in-Some : goal.returns-in-Some
returns-in-Some c is =
    rw c.in-Some.is (no_quote_or_return c.in-Some.quote c.args.text.now (no_such c.memchr2.result _ _ c.memchr2.ensures (sym c.is_nowhere.ensures ∙ is)))

pub returns-in-None : goal.returns-in-None
returns-in-None c is = rw c.in-None.is (no_return c.args.text.now (no_such c.memchr.result _ _ c.memchr.ensures (sym c.is_nowhere-in-None.ensures ∙ is)))
