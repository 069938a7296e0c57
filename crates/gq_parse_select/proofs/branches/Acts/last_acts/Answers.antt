use Rattle.std.proofs.Common.{subst}
use Rattle.gq_grammar.specs.Lexemes.{sign}
use Rattle.gq_grammar.specs.Parsers.{Found, many, after}
use Rattle.gq_parse_select.specs.Acts.{plain_act_parser, nested_act_parser, last_acts_parser}
use Rattle.gq_parse_select.proofs.branches.Acts.last_acts.Goals as goal

pub returns-in-Some : goal.returns-in-Some
unfolding last_acts_parser
returns-in-Some g c =
    c.chained.ensures (plain_act_parser) (many (after (sign ",") (nested_act_parser c.args.self.now.levels))) c.args.self.now.source.now c.args.at c.in-Some.at
    (subst (Found (plain_act_parser) c.args.self.now.source.now c.args.at) c.in-Some.is c.in_ok-plain_act.ensures) c.more_acts.ensures
