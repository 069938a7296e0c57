use Rattle.gq_parse_select.specs.Bodies.{statement_parser}
use Rattle.gq_parse_query.proofs.ItemLemmas.{ends_within}
use Rattle.gq_parse_query.proofs.bodies.ended_statement.Goals as goal

pub returns : goal.returns
returns c = c.closed.ensures statement_parser c.args.at c.statement.ensures

pub closed-requires : goal.closed-requires
closed-requires c = ends_within statement_parser c.args.source.now c.args.at c.statement.result c.statement.ensures
