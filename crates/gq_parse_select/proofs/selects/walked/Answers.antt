use Rattle.std.proofs.Common.{subst}
use Rattle.gq_grammar.specs.Parsers.{Found, maybe}
use Rattle.gq_parse_select.specs.Selects.{from_parser, walk_parser}
use Rattle.gq_parse_select.proofs.selects.walked.Goals as goal

pub returns-in-Some : goal.returns-in-Some
returns-in-Some c =
    c.beside.ensures (from_parser) (maybe walk_parser) c.args.source.now c.args.at c.in-Some.at
    (subst (Found (from_parser) c.args.source.now c.args.at) c.in-Some.is c.in_ok-from.ensures) c.some_walk.ensures
