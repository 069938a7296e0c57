use Rattle.gq_parse_common.proofs.Steps.{expression_result}
use Rattle.gq_parse_common.proofs.words.expression.Goals as goal

pub returns : goal.returns
returns c = expression_result c.args.source.now c.args.at c.len.result c.expr.result c.len.ensures c.expr.ensures
