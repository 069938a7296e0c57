use Rattle.std.proofs.Common.{subst}
use Rattle.gq_grammar.specs.Parsers.{Found, both, maybe}
use Rattle.gq_parse_select.specs.Selects.{accum_acts_parser, acting_parser, filtered_parser, post_acts_parser}
use Rattle.gq_parse_select.proofs.selects.acting.Goals as goal

pub returns-in-Some : goal.returns-in-Some
unfolding acting_parser
returns-in-Some c =
    c.beside.ensures (both filtered_parser (maybe accum_acts_parser)) (maybe post_acts_parser) c.args.source.now c.args.at c.in-Some.at
    (subst (Found (both filtered_parser (maybe accum_acts_parser)) c.args.source.now c.args.at) c.in-Some.is c.in_ok-fed.ensures) c.post.ensures
