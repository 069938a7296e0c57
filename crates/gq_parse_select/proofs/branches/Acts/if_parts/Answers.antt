use Rattle.std.proofs.Common.{subst}
use Rattle.gq_grammar.specs.Lexemes.{word}
use Rattle.gq_grammar.specs.Parsers.{Found}
use Rattle.gq_grammar.specs.Series.{chain}
use Rattle.gq_parse_select.specs.Acts.{nested_act_parser, if_acts_parser, acts_end_parser}
use Rattle.gq_parse_select.proofs.branches.Acts.if_parts.Goals as goal

pub returns-in-Some : goal.returns-in-Some
returns-in-Some g c =
    c.paired.ensures (chain (word "ELSE") (if_acts_parser (nested_act_parser c.args.self.now.levels))) (acts_end_parser (nested_act_parser c.args.self.now.levels)) c.args.self.now.source.now c.args.at c.in-Some.at
    (subst (Found (chain (word "ELSE") (if_acts_parser (nested_act_parser c.args.self.now.levels))) c.args.self.now.source.now c.args.at) c.in-Some.is c.in_ok-branches.ensures) c.acts_end.ensures
