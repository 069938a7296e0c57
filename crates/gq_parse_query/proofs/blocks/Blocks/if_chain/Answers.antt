use Rattle.std.proofs.Common.{rules, subst}
use Rattle.gq_tree.specs.declared.body.Stmt.TheVariants as stmt
use Rattle.gq_grammar.specs.Lexemes.{word}
use Rattle.gq_grammar.specs.Parsers.{Found, both, many, after}
use Rattle.gq_grammar.specs.Series.{chain}
use Rattle.gq_parse_select.proofs.StageLemmas.{grouped_none, grouped_some}
use Rattle.gq_parse_select.specs.Bodies.{nested_parser, if_branch_parser, if_end_parser, branches_parser, if_parser}
use Rattle.gq_parse_query.proofs.blocks.Blocks.if_chain.Goals as goal

pub returns-in-None : goal.returns-in-None
unfolding chain branches_parser if_parser
returns-in-None g c =
    grouped_none (λ branches last. stmt.If branches last) (if_branch_parser (nested_parser c.args.self.now.levels)) (many (after (word "ELSE") (if_branch_parser (nested_parser c.args.self.now.levels)))) (if_end_parser (nested_parser c.args.self.now.levels)) c.args.self.now.source.now c.args.at
    (subst (Found (both (chain (word "ELSE") (if_branch_parser (nested_parser c.args.self.now.levels))) (if_end_parser (nested_parser c.args.self.now.levels))) c.args.self.now.source.now c.args.at) c.in-None.is c.in_ok-if_parts.ensures)

pub returns-in-Some : goal.returns-in-Some
unfolding chain branches_parser if_parser
returns-in-Some g c =
    let h = grouped_some (λ branches last. stmt.If branches last) (if_branch_parser (nested_parser c.args.self.now.levels)) (many (after (word "ELSE") (if_branch_parser (nested_parser c.args.self.now.levels)))) (if_end_parser (nested_parser c.args.self.now.levels)) c.args.self.now.source.now c.args.at ((c.in-Some.branches, c.in-Some.last), c.in-Some.at)
    (subst (Found (both (chain (word "ELSE") (if_branch_parser (nested_parser c.args.self.now.levels))) (if_end_parser (nested_parser c.args.self.now.levels))) c.args.self.now.source.now c.args.at) c.in-Some.is c.in_ok-if_parts.ensures) in
    search (rules, h)
