use Rattle.std.proofs.Common.{IfOk, Some, sym, ◌∙◌, subst}
use Rattle.gq_grammar.specs.Lexemes.{sign}
use Rattle.gq_grammar.specs.Parsers.{Found, many, after}
use Rattle.gq_grammar.specs.Series.{chain}
use Rattle.gq_parse_common.proofs.ListLemmas.{given, found_some, found_none, chain_none, chain_found}
use Rattle.gq_parse_common.proofs.lists.list.Goals as goal

pub returns-in-None : goal.returns-in-None
returns-in-None g c = λ p f.
    chain_none (sign ",") p c.args.source.now c.args.at
    (found_none p c.args.source.now c.args.at c.item.result c.in_ok-item.field-0 (given p f c.item.ensures c.requires.at) c.in_ok-item.was c.in-None.is)

pub returns : goal.returns
returns g c = λ p f.
    subst (λ z. Found (chain (sign ",") p) c.args.source.now c.args.at (Some (z, c.in_ok-all.at))) (sym (c.from_vec.ensures ∙ c.in_ok-insert.ensures.items))
    (chain_found (sign ",") p c.args.source.now c.args.at c.in-Some.read.1 c.in_ok-all.at c.in-Some.read.0 c.in_ok-all.all.items
    (found_some p c.args.source.now c.args.at c.item.result c.in_ok-item.field-0 c.in-Some.read (given p f c.item.ensures c.requires.at) c.in_ok-item.was c.in-Some.is)
    (subst (λ r. IfOk r (λ read. Found (many (after (sign ",") p)) c.args.source.now c.in-Some.read.1 (Some (read.0.items, read.1)))) c.in_ok-all.was (c.more_items.ensures p f)))
