use Rattle.std.proofs.Common.{subst}
use Rattle.gq_grammar.specs.Lexemes.{word}
use Rattle.gq_grammar.specs.Parsers.{Found, after}
use Rattle.gq_parse_select.specs.Bodies.{over_parser, do_body_parser, nested_parser}
use Rattle.gq_parse_query.proofs.blocks.Blocks.over_body.Goals as goal

pub returns-in-Some : goal.returns-in-Some
returns-in-Some g c =
    c.paired.ensures (after (word "IN") over_parser) (do_body_parser (nested_parser c.args.self.now.levels)) c.args.self.now.source.now c.args.at c.in-Some.at
    (subst (Found (after (word "IN") over_parser) c.args.self.now.source.now c.args.at) c.in-Some.is c.in_ok-in_over.ensures) c.do_body.ensures
