use Rattle.std.proofs.Common.{subst}
use Rattle.gq_grammar.specs.Lexemes.{Name, word, spelling}
use Rattle.gq_grammar.specs.Parsers.{Found, token, both, maybe, after}
use Rattle.gq_parse_select.specs.Selects.{alias_parser, from_parser}
use Rattle.gq_parse_select.proofs.selects.from.Goals as goal

pub returns-in-Some : goal.returns-in-Some
unfolding from_parser
returns-in-Some c =
    c.beside.ensures (after (word "SELECT") (both (token Name spelling) (after (word "FROM") (token Name spelling)))) (maybe alias_parser) c.args.source.now c.args.at c.in-Some.at
    (subst (Found (after (word "SELECT") (both (token Name spelling) (after (word "FROM") (token Name spelling)))) c.args.source.now c.args.at) c.in-Some.is c.in_ok-selected.ensures) c.some_alias.ensures
