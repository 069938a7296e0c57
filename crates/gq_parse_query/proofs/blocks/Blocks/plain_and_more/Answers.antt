use Rattle.std.proofs.Common.{subst}
use Rattle.gq_grammar.specs.Lexemes.{sign}
use Rattle.gq_grammar.specs.Parsers.{Found, many}
use Rattle.gq_grammar.specs.Series.{ended}
use Rattle.gq_parse_select.specs.Bodies.{plain_parser, nested_parser}
use Rattle.gq_parse_query.proofs.blocks.Blocks.plain_and_more.Goals as goal

pub returns-in-Some : goal.returns-in-Some
returns-in-Some g c =
    c.chained.ensures (ended (sign ";") (plain_parser (nested_parser c.args.self.now.levels))) (many (ended (sign ";") (nested_parser c.args.self.now.levels))) c.args.self.now.source.now c.args.at c.in-Some.at
    (subst (Found (ended (sign ";") (plain_parser (nested_parser c.args.self.now.levels))) c.args.self.now.source.now c.args.at) c.in-Some.is c.in_ok-first_plain.ensures) c.more.ensures
