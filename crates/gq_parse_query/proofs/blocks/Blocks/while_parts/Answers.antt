use Rattle.std.proofs.Common.{subst}
use Rattle.gq_grammar.specs.Lexemes.{word}
use Rattle.gq_grammar.specs.Parsers.{Found, both, maybe, after}
use Rattle.gq_parse_common.specs.Expression.{expression}
use Rattle.gq_parse_select.specs.Bodies.{limit_parser, do_body_parser, nested_parser}
use Rattle.gq_parse_query.proofs.blocks.Blocks.while_parts.Goals as goal

pub returns-in-Some : goal.returns-in-Some
returns-in-Some g c =
    c.paired.ensures (after (word "WHILE") (both expression (maybe limit_parser))) (do_body_parser (nested_parser c.args.self.now.levels)) c.args.self.now.source.now c.args.at c.in-Some.at
    (subst (Found (after (word "WHILE") (both expression (maybe limit_parser))) c.args.self.now.source.now c.args.at) c.in-Some.is c.in_ok-while_head.ensures) c.do_body.ensures
