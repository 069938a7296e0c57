use Rattle.std.proofs.Common.{sym}
use Rattle.gq_edge.proofs.TableLemmas.{not_yet, noted_there}
use Rattle.gq_edge.proofs.edges.is_noted.Goals as goal

pub returns-then-naming-kind : goal.returns-then-naming-kind
returns-then-naming-kind c = sym (noted_there c.args.namings.now c.args.kind c.loop-naming.naming-index c.loop-naming-test.true c.if-naming-kind.true)

pub loop-naming-preserved : goal.loop-naming-preserved
loop-naming-preserved c = not_yet c.args.namings.now c.args.kind c.loop-naming.naming-index c.loop-naming.invariant c.if-naming-kind.false
