use Rattle.std.proofs.Common.{subst}
use Rattle.gq_grammar.specs.Lexemes.{Name, spelling}
use Rattle.gq_grammar.specs.Parsers.{Found, token, maybe}
use Rattle.gq_parse_select.specs.Bodies.{set_types_parser}
use Rattle.gq_parse_select.proofs.assigns.typed_name.Goals as goal

pub returns-in-Some : goal.returns-in-Some
returns-in-Some c =
    c.beside.ensures (token Name spelling) (maybe set_types_parser) c.args.source.now c.args.at c.in-Some.at
    (subst (Found (token Name spelling) c.args.source.now c.args.at) c.in-Some.is c.in_ok-name.ensures) c.some_set_types.ensures
