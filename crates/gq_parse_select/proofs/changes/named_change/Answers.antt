use Rattle.std.proofs.Common.{subst}
use Rattle.gq_grammar.specs.Lexemes.{Name, Attached, sign, spelling}
use Rattle.gq_grammar.specs.Parsers.{Found, token, both, after}
use Rattle.gq_parse_select.specs.Acts.{change_parser}
use Rattle.gq_parse_select.proofs.changes.named_change.Goals as goal

pub returns-in-Some : goal.returns-in-Some
returns-in-Some c =
    c.paired.ensures (token Name spelling) (after (sign ".") (both (token Attached spelling) change_parser)) c.args.source.now c.args.at c.in-Some.at
    (subst (Found (token Name spelling) c.args.source.now c.args.at) c.in-Some.is c.in_ok-name.ensures) c.dotted_change.ensures
