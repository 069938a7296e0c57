use Rattle.std.proofs.Common.{subst}
use Rattle.gq_grammar.specs.Lexemes.{Global, spelling}
use Rattle.gq_grammar.specs.Parsers.{Found, token}
use Rattle.gq_parse_select.specs.Acts.{change_parser}
use Rattle.gq_parse_select.proofs.assigns.global_and_change.Goals as goal

pub returns-in-Some : goal.returns-in-Some
returns-in-Some c =
    c.paired.ensures (token Global spelling) (change_parser) c.args.source.now c.args.at c.in-Some.at
    (subst (Found (token Global spelling) c.args.source.now c.args.at) c.in-Some.is c.in_ok-global.ensures) c.change.ensures
