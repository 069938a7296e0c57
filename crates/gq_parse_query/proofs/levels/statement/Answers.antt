use Rattle.gq_parse_query.proofs.LevelLemmas.{statement_result}
use Rattle.gq_parse_query.proofs.levels.statement.Goals as goal

pub returns : goal.returns
returns c = statement_result c.args.source.now c.args.at c.len.result c.nested.result c.len.ensures c.nested.ensures
