use Rattle.gq_grammar.specs.Lexemes.{Sign}
use Rattle.gq_parse_query.proofs.ItemLemmas.{nothing_to_close, not_closed, is_closed}
use Rattle.gq_parse_query.proofs.items.closed.Goals as goal

pub returns-in-None : goal.returns-in-None
returns-in-None g c = λ p at f. nothing_to_close (Sign c.args.sign.now) p c.args.source.now at c.args.read c.in_ok-read.field-0 c.in_ok-read.was c.in-None.is f

pub returns-in-None-sign : goal.returns-in-None-sign
returns-in-None-sign g c = λ p at f.
    not_closed (Sign c.args.sign.now) p c.args.source.now at c.args.read c.in_ok-read.field-0 (c.in-Some.item, c.in-Some.at) c.sign.result c.in_ok-read.was c.in-Some.is c.sign.ensures c.in-None-sign.is f

pub returns-in-Some-sign : goal.returns-in-Some-sign
returns-in-Some-sign g c = λ p at f.
    is_closed (Sign c.args.sign.now) p c.args.source.now at c.args.read c.in_ok-read.field-0 (c.in-Some.item, c.in-Some.at) c.sign.result c.in-Some-sign.next c.in_ok-read.was c.in-Some.is c.sign.ensures c.in-Some-sign.is f
