use Rattle.gq_edge.proofs.TableLemmas.{not_yet, naming_there}
use Rattle.gq_edge.proofs.names.naming_at.Goals as goal

pub returns-then-naming-kind : goal.returns-then-naming-kind
returns-then-naming-kind c =
    naming_there c.args.namings.now c.args.kind c.loop-naming.naming-index c.loop-naming-test.true c.loop-naming.invariant c.if-naming-kind.true

pub loop-naming-preserved : goal.loop-naming-preserved
loop-naming-preserved c = not_yet c.args.namings.now c.args.kind c.loop-naming.naming-index c.loop-naming.invariant c.if-naming-kind.false
