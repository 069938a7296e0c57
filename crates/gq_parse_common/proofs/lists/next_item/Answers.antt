use Rattle.gq_grammar.specs.Lexemes.{sign}
use Rattle.gq_parse_common.proofs.ListLemmas.{given, sign_missing, sign_found, sign_within}
use Rattle.gq_parse_common.proofs.lists.next_item.Goals as goal

pub returns-in-None : goal.returns-in-None
returns-in-None g c = λ p f. sign_missing (sign ",") p c.args.source.now c.args.at c.sign.result c.sign.ensures c.in-None.is

pub returns : goal.returns
returns g c = λ p f.
    sign_found (sign ",") p c.args.source.now c.args.at c.sign.result c.in-Some.read c.item.result c.sign.ensures c.in-Some.is
    (given p f c.item.ensures (sign_within (sign ",") c.args.source.now c.args.at c.sign.result c.in-Some.read c.sign.ensures c.in-Some.is))
