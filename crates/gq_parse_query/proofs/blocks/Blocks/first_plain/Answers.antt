use Rattle.gq_parse_select.specs.Bodies.{plain_parser, nested_parser}
use Rattle.gq_parse_query.proofs.ItemLemmas.{ends_within}
use Rattle.gq_parse_query.proofs.blocks.Blocks.first_plain.Goals as goal

pub returns : goal.returns
returns g c = c.closed.ensures (plain_parser (nested_parser c.args.self.now.levels)) c.args.at c.plain.ensures

pub closed-requires : goal.closed-requires
closed-requires g c = ends_within (plain_parser (nested_parser c.args.self.now.levels)) c.args.self.now.source.now c.args.at c.plain.result c.plain.ensures
