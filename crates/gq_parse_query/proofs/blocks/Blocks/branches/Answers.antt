use Rattle.std.proofs.Common.{subst}
use Rattle.gq_grammar.specs.Lexemes.{word}
use Rattle.gq_grammar.specs.Parsers.{Found, many, after}
use Rattle.gq_grammar.specs.Series.{chain}
use Rattle.gq_parse_select.specs.Bodies.{if_branch_parser, nested_parser}
use Rattle.gq_parse_query.proofs.blocks.Blocks.branches.Goals as goal

pub returns-in-Some : goal.returns-in-Some
unfolding chain
returns-in-Some g c =
    c.chained.ensures (if_branch_parser (nested_parser c.args.self.now.levels)) (many (after (word "ELSE") (if_branch_parser (nested_parser c.args.self.now.levels)))) c.args.self.now.source.now c.args.at c.in-Some.at
    (subst (Found (if_branch_parser (nested_parser c.args.self.now.levels)) c.args.self.now.source.now c.args.at) c.in-Some.is c.in_ok-branch.ensures) c.else_ifs.ensures
