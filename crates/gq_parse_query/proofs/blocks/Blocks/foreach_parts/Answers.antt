use Rattle.std.proofs.Common.{subst}
use Rattle.gq_grammar.specs.Lexemes.{Name, word, spelling}
use Rattle.gq_grammar.specs.Parsers.{Found, token, both, after}
use Rattle.gq_parse_select.specs.Bodies.{over_parser, do_body_parser, nested_parser}
use Rattle.gq_parse_query.proofs.blocks.Blocks.foreach_parts.Goals as goal

pub returns-in-Some : goal.returns-in-Some
returns-in-Some g c =
    c.paired.ensures (token Name spelling) (both (after (word "IN") over_parser) (do_body_parser (nested_parser c.args.self.now.levels))) c.args.self.now.source.now c.args.at c.in-Some.at
    (subst (Found (token Name spelling) c.args.self.now.source.now c.args.at) c.in-Some.is c.in_ok-name.ensures) c.over_body.ensures
