use Rattle.std.proofs.Common.{rules, subst}
use Rattle.gq_tree.specs.declared.select.ActTree.TheVariants as act
use Rattle.gq_grammar.specs.Lexemes.{word}
use Rattle.gq_grammar.specs.Parsers.{Found, both, many, after}
use Rattle.gq_grammar.specs.Series.{chain}
use Rattle.gq_parse_select.specs.Acts.{nested_act_parser, if_acts_parser, acts_end_parser, act_branches_parser}
use Rattle.gq_parse_select.proofs.StageLemmas.{grouped_none, grouped_some}
use Rattle.gq_parse_select.proofs.branches.Acts.if_act.Goals as goal

pub returns-in-None : goal.returns-in-None
unfolding chain act_branches_parser
returns-in-None g c =
    grouped_none (λ branches last. act.If branches last) (if_acts_parser (nested_act_parser c.args.self.now.levels)) (many (after (word "ELSE") (if_acts_parser (nested_act_parser c.args.self.now.levels)))) (acts_end_parser (nested_act_parser c.args.self.now.levels)) c.args.self.now.source.now c.args.at
    (subst (Found (both (chain (word "ELSE") (if_acts_parser (nested_act_parser c.args.self.now.levels))) (acts_end_parser (nested_act_parser c.args.self.now.levels))) c.args.self.now.source.now c.args.at) c.in-None.is c.in_ok-if_parts.ensures)

pub returns-in-Some : goal.returns-in-Some
unfolding chain act_branches_parser
returns-in-Some g c =
    let h = grouped_some (λ branches last. act.If branches last) (if_acts_parser (nested_act_parser c.args.self.now.levels)) (many (after (word "ELSE") (if_acts_parser (nested_act_parser c.args.self.now.levels)))) (acts_end_parser (nested_act_parser c.args.self.now.levels)) c.args.self.now.source.now c.args.at ((c.in-Some.branches, c.in-Some.last), c.in-Some.at)
    (subst (Found (both (chain (word "ELSE") (if_acts_parser (nested_act_parser c.args.self.now.levels))) (acts_end_parser (nested_act_parser c.args.self.now.levels))) c.args.self.now.source.now c.args.at) c.in-Some.is c.in_ok-if_parts.ensures) in
    search (rules, h)
