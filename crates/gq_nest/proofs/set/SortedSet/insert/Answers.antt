use Rattle.gq_nest.proofs.Seeks.{keys_ok}
use Rattle.gq_nest.proofs.set.SortedSet.insert.Goals as goal

pub returns-clause-keys : goal.returns-clause-keys
returns-clause-keys g c = rw (← c.self.view_is) (keys_ok g.K.Ord.cmp c.insert.result c.self.inside.map.entries c.insert.new.self.entries c.args.key tt c.insert.ensures.entries)
