use Rattle.std.proofs.Common.{◌<◌, length, arith}
use Rattle.gq_vertex.proofs.SortedLemmas.{sorted_next}
use Rattle.gq_vertex.proofs.index.sorted.Goals as goal

pub loop-number-preserved : goal.loop-number-preserved
loop-number-preserved c =
    let low : c.loop-number.number < length c.args.rows.now = omega (arith, c.loop-number-test.true, c.loop-number.auto.number-end) in
    sorted_next c.args.rows.now c.loop-number.number c.index-rows-number.result c.loop-number.names c.put.new.names c.requires.apart low
    c.index-rows-number.is c.loop-number.invariant (rw (c.kind.ensures, c.id.ensures) at c.in_ok-put.ensures.put)
