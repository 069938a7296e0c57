use Rattle.gq_parse_select.specs.Bodies.{nested_parser}
use Rattle.gq_parse_query.proofs.ItemLemmas.{ends_within}
use Rattle.gq_parse_query.proofs.blocks.Blocks.next.Goals as goal

pub returns : goal.returns
returns g c = c.closed.ensures (nested_parser c.args.self.now.levels) c.args.at c.inner.ensures

pub closed-requires : goal.closed-requires
closed-requires g c = ends_within (nested_parser c.args.self.now.levels) c.args.self.now.source.now c.args.at c.inner.result c.inner.ensures
