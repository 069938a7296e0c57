use Rattle.std.proofs.Common.{subst}
use Rattle.gq_grammar.specs.Lexemes.{Name, sign, spelling}
use Rattle.gq_grammar.specs.Parsers.{Found, token, both, maybe, after}
use Rattle.gq_parse_select.specs.Bodies.{set_types_parser, right_parser}
use Rattle.gq_parse_select.proofs.assigns.assigned.Goals as goal

pub returns-in-Some : goal.returns-in-Some
returns-in-Some c =
    c.paired.ensures (both (token Name spelling) (maybe set_types_parser)) (after (sign "=") right_parser) c.args.source.now c.args.at c.in-Some.at
    (subst (Found (both (token Name spelling) (maybe set_types_parser)) c.args.source.now c.args.at) c.in-Some.is c.in_ok-typed_name.ensures) c.right_side.ensures
