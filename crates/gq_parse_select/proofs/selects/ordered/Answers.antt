use Rattle.std.proofs.Common.{subst}
use Rattle.gq_grammar.specs.Parsers.{Found, both, maybe}
use Rattle.gq_parse_select.specs.Selects.{acting_parser, having_parser, order_by_parser, ordered_parser}
use Rattle.gq_parse_select.proofs.selects.ordered.Goals as goal

pub returns-in-Some : goal.returns-in-Some
unfolding ordered_parser
returns-in-Some c =
    c.beside.ensures (both acting_parser (maybe having_parser)) (maybe order_by_parser) c.args.source.now c.args.at c.in-Some.at
    (subst (Found (both acting_parser (maybe having_parser)) c.args.source.now c.args.at) c.in-Some.is c.in_ok-kept.ensures) c.order.ensures
