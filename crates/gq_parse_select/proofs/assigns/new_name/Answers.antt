use Rattle.std.proofs.Common.{subst}
use Rattle.gq_grammar.specs.Lexemes.{Name, spelling}
use Rattle.gq_grammar.specs.Parsers.{Found, token, maybe}
use Rattle.gq_parse_common.specs.Kinds.{value_parser}
use Rattle.gq_parse_select.specs.Bodies.{new_name_parser}
use Rattle.gq_parse_select.proofs.assigns.new_name.Goals as goal

pub returns-in-Some : goal.returns-in-Some
unfolding new_name_parser
returns-in-Some c =
    c.beside.ensures (token Name spelling) (maybe value_parser) c.args.source.now c.args.at c.in-Some.at
    (subst (Found (token Name spelling) c.args.source.now c.args.at) c.in-Some.is c.in_ok-name.ensures) c.opening.ensures
