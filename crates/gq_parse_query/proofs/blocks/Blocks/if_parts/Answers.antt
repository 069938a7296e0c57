use Rattle.std.proofs.Common.{subst}
use Rattle.gq_grammar.specs.Lexemes.{word}
use Rattle.gq_grammar.specs.Parsers.{Found}
use Rattle.gq_grammar.specs.Series.{chain}
use Rattle.gq_parse_select.specs.Bodies.{if_branch_parser, if_end_parser, nested_parser}
use Rattle.gq_parse_query.proofs.blocks.Blocks.if_parts.Goals as goal

pub returns-in-Some : goal.returns-in-Some
returns-in-Some g c =
    c.paired.ensures (chain (word "ELSE") (if_branch_parser (nested_parser c.args.self.now.levels))) (if_end_parser (nested_parser c.args.self.now.levels)) c.args.self.now.source.now c.args.at c.in-Some.at
    (subst (Found (chain (word "ELSE") (if_branch_parser (nested_parser c.args.self.now.levels))) c.args.self.now.source.now c.args.at) c.in-Some.is c.in_ok-branches.ensures) c.if_end.ensures
