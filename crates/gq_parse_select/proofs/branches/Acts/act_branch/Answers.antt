use Rattle.std.proofs.Common.{subst}
use Rattle.gq_grammar.specs.Lexemes.{sign, word}
use Rattle.gq_grammar.specs.Parsers.{Found, after}
use Rattle.gq_grammar.specs.Series.{chain}
use Rattle.gq_parse_common.specs.Expression.{expression}
use Rattle.gq_parse_select.specs.Acts.{nested_act_parser, act_branch_parser}
use Rattle.gq_parse_select.proofs.branches.Acts.act_branch.Goals as goal

pub returns-in-Some : goal.returns-in-Some
unfolding act_branch_parser
returns-in-Some g c =
    c.paired.ensures (expression) (after (word "THEN") (chain (sign ",") (nested_act_parser c.args.self.now.levels))) c.args.self.now.source.now c.args.at c.in-Some.at
    (subst (Found (expression) c.args.self.now.source.now c.args.at) c.in-Some.is c.in_ok-expression.ensures) c.then_acts.ensures
