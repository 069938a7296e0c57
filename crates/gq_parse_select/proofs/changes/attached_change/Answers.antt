use Rattle.std.proofs.Common.{subst}
use Rattle.gq_grammar.specs.Lexemes.{Attached, spelling}
use Rattle.gq_grammar.specs.Parsers.{Found, token}
use Rattle.gq_parse_select.specs.Acts.{change_parser}
use Rattle.gq_parse_select.proofs.changes.attached_change.Goals as goal

pub returns-in-Some : goal.returns-in-Some
returns-in-Some c =
    c.paired.ensures (token Attached spelling) (change_parser) c.args.source.now c.args.at c.in-Some.at
    (subst (Found (token Attached spelling) c.args.source.now c.args.at) c.in-Some.is c.in_ok-attached.ensures) c.change.ensures
