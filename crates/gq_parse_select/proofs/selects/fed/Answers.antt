use Rattle.std.proofs.Common.{subst}
use Rattle.gq_grammar.specs.Parsers.{Found, maybe}
use Rattle.gq_parse_select.specs.Selects.{accum_acts_parser, filtered_parser}
use Rattle.gq_parse_select.proofs.selects.fed.Goals as goal

pub returns-in-Some : goal.returns-in-Some
returns-in-Some c =
    c.beside.ensures (filtered_parser) (maybe accum_acts_parser) c.args.source.now c.args.at c.in-Some.at
    (subst (Found (filtered_parser) c.args.source.now c.args.at) c.in-Some.is c.in_ok-filtered.ensures) c.accum.ensures
