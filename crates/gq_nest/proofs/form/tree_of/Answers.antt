use Rattle.gq_nest.proofs.Seeks.{one_more, one_less}
use Rattle.gq_nest.proofs.form.tree_of.Goals as goal

pub loop-key-preserved : goal.loop-key-preserved
loop-key-preserved g c = one_more g.K.Ord.cmp c.pop.new.self.items c.loop-key.tree.entries c.args.entries.now.items c.loop-key.entries.items c.in-Some.key c.in-Some.value c.in-Some.ensures.items c.loop-key.invariant c.requires _ c.in_ok-insert_many.ensures.entries

pub returns-in_err-insert_many-clause-ordered : goal.returns-in_err-insert_many-clause-ordered
returns-in_err-insert_many-clause-ordered g c = one_less g.K.Ord.cmp c.pop.new.self.items c.loop-key.tree.entries c.args.entries.now.items c.loop-key.entries.items c.in-Some.key c.in-Some.value c.in-Some.ensures.items c.loop-key.invariant c.requires
