use Rattle.std.proofs.Common.{subst}
use Rattle.gq_grammar.specs.Lexemes.{word}
use Rattle.gq_grammar.specs.Parsers.{Found, many, after}
use Rattle.gq_grammar.specs.Series.{chain}
use Rattle.gq_parse_select.specs.Acts.{nested_act_parser, if_acts_parser}
use Rattle.gq_parse_select.proofs.branches.Acts.branches.Goals as goal

pub returns-in-Some : goal.returns-in-Some
unfolding chain
returns-in-Some g c =
    c.chained.ensures (if_acts_parser (nested_act_parser c.args.self.now.levels)) (many (after (word "ELSE") (if_acts_parser (nested_act_parser c.args.self.now.levels)))) c.args.self.now.source.now c.args.at c.in-Some.at
    (subst (Found (if_acts_parser (nested_act_parser c.args.self.now.levels)) c.args.self.now.source.now c.args.at) c.in-Some.is c.in_ok-if_acts.ensures) c.more_branches.ensures
