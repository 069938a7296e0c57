use Rattle.std.proofs.Common.{subst}
use Rattle.gq_grammar.specs.Parsers.{Found, maybe}
use Rattle.gq_parse_common.specs.Expression.{expression}
use Rattle.gq_parse_select.specs.Bodies.{limit_parser}
use Rattle.gq_parse_query.proofs.overs.condition.Goals as goal

pub returns-in-Some : goal.returns-in-Some
returns-in-Some c =
    c.beside.ensures (expression) (maybe limit_parser) c.args.source.now c.args.at c.in-Some.at
    (subst (Found (expression) c.args.source.now c.args.at) c.in-Some.is c.in_ok-expression.ensures) c.some_limit.ensures
