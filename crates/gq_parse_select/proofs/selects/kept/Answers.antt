use Rattle.std.proofs.Common.{subst}
use Rattle.gq_grammar.specs.Parsers.{Found, maybe}
use Rattle.gq_parse_select.specs.Selects.{acting_parser, having_parser}
use Rattle.gq_parse_select.proofs.selects.kept.Goals as goal

pub returns-in-Some : goal.returns-in-Some
returns-in-Some c =
    c.beside.ensures (acting_parser) (maybe having_parser) c.args.source.now c.args.at c.in-Some.at
    (subst (Found (acting_parser) c.args.source.now c.args.at) c.in-Some.is c.in_ok-acting.ensures) c.having.ensures
