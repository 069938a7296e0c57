use Rattle.std.proofs.Common.{arith}
use Rattle.gq_parallel_tests.proofs.RowLemmas.{have_ends}
use Rattle.gq_parallel_tests.proofs.blocks.store.Goals as goal

pub returns-clause-ends : goal.returns-clause-ends
returns-clause-ends c = let few = c.if-len-lt3.false in let n = c.len.ensures.count in have_ends 3 c.in_ok-vertices.vertices c.in_ok-edges.edges.rows (omega (arith, few, n)) c.in_ok-edges.ensures
