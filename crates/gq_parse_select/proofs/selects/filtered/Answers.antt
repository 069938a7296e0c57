use Rattle.std.proofs.Common.{subst}
use Rattle.gq_grammar.specs.Parsers.{Found, both, maybe}
use Rattle.gq_parse_select.specs.Selects.{filter_parser, filtered_parser, from_parser, walk_parser}
use Rattle.gq_parse_select.proofs.selects.filtered.Goals as goal

pub returns-in-Some : goal.returns-in-Some
unfolding filtered_parser
returns-in-Some c =
    c.beside.ensures (both from_parser (maybe walk_parser)) (maybe filter_parser) c.args.source.now c.args.at c.in-Some.at
    (subst (Found (both from_parser (maybe walk_parser)) c.args.source.now c.args.at) c.in-Some.is c.in_ok-walked.ensures) c.filter.ensures
