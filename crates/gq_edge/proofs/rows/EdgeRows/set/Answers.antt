use Rattle.std.proofs.Common.{arith}
use Rattle.gq_edge.proofs.JoinLemmas.{view_long, set_is}
use Rattle.gq_edge.proofs.SortedLemmas.{on_ok}
use Rattle.gq_edge.proofs.rows.EdgeRows.set.Goals as goal

pub set-requires : goal.set-requires
set-requires c =
    omega (arith, c.requires, c.self.invariant, view_long c.self.inside.ends.items c.self.inside.attributes c.args.self.now c.self.view_is c.self.invariant)

pub returns-clause-ok : goal.returns-clause-ok
returns-clause-ok c =
    on_ok c.set.result c.set.ensures.ok
    (set_is c.self.inside.ends.items c.self.inside.attributes c.set.new.self c.args.self.now c.args.number c.args.attributes.now c.self.view_is c.self.invariant c.requires)
