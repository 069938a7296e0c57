use Rattle.std.proofs.Common.{subst}
use Rattle.gq_grammar.specs.Lexemes.{Name, sign, spelling}
use Rattle.gq_grammar.specs.Parsers.{Found, token, many, after}
use Rattle.gq_grammar.specs.Series.{chain}
use Rattle.gq_parse_select.specs.Selects.{type_names_parser}
use Rattle.gq_parse_select.proofs.patterns.type_names.Goals as goal

pub returns-in-Some : goal.returns-in-Some
unfolding chain type_names_parser
returns-in-Some c =
    c.chained.ensures (token Name spelling) (many (after (sign "|") (token Name spelling))) c.args.source.now c.args.at c.in-Some.at
    (subst (Found (token Name spelling) c.args.source.now c.args.at) c.in-Some.is c.in_ok-name.ensures) c.more_names.ensures
