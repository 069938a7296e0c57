use Rattle.std.proofs.Common.{subst}
use Rattle.gq_grammar.specs.Lexemes.{Name, word, spelling}
use Rattle.gq_grammar.specs.Parsers.{Found, token, after}
use Rattle.gq_parse_select.proofs.selects.name_from.Goals as goal

pub returns-in-Some : goal.returns-in-Some
returns-in-Some c =
    c.paired.ensures (token Name spelling) (after (word "FROM") (token Name spelling)) c.args.source.now c.args.at c.in-Some.at
    (subst (Found (token Name spelling) c.args.source.now c.args.at) c.in-Some.is c.in_ok-name.ensures) c.from_set.ensures
