use Rattle.std.proofs.Common.{subst}
use Rattle.gq_grammar.specs.Parsers.{Found, maybe}
use Rattle.gq_parse_select.specs.Selects.{limit_parser, ordered_parser}
use Rattle.gq_parse_select.proofs.selects.limited.Goals as goal

pub returns-in-Some : goal.returns-in-Some
returns-in-Some c =
    c.beside.ensures (ordered_parser) (maybe limit_parser) c.args.source.now c.args.at c.in-Some.at
    (subst (Found (ordered_parser) c.args.source.now c.args.at) c.in-Some.is c.in_ok-ordered.ensures) c.limit.ensures
