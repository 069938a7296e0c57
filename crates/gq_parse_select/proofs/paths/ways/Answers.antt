use Rattle.std.proofs.Common.{subst}
use Rattle.gq_grammar.specs.Lexemes.{sign}
use Rattle.gq_grammar.specs.Parsers.{Found, many, after}
use Rattle.gq_grammar.specs.Series.{chain}
use Rattle.gq_parse_select.specs.Selects.{way_parser}
use Rattle.gq_parse_select.proofs.paths.ways.Goals as goal

pub returns-in-Some : goal.returns-in-Some
unfolding chain
returns-in-Some c =
    c.chained.ensures (way_parser) (many (after (sign "|") way_parser)) c.args.source.now c.args.at c.in-Some.at
    (subst (Found (way_parser) c.args.source.now c.args.at) c.in-Some.is c.in_ok-way.ensures) c.more_ways.ensures
