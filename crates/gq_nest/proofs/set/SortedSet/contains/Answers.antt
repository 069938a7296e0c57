use Rattle.std.proofs.Common.{◌∙◌}
use Rattle.std.specs.BTreeMap.{is_at}
use Rattle.gq_nest.proofs.Seeks.{asks}
use Rattle.gq_nest.proofs.set.SortedSet.contains.Goals as goal

pub returns : goal.returns
returns g c = rw (← c.self.view_is) (c.is_some.ensures ∙ asks (is_at (g.Q.Comparable.compare c.args.key)) c.self.inside.map.entries c.get.result c.get.ensures.value)
