use Rattle.gq_after.proofs.ReadLemmas.{found_end}
use Rattle.gq_after.proofs.keys.with_keys.Goals as goal

pub rows_of-requires-clause-reads : goal.rows_of-requires-clause-reads
rows_of-requires-clause-reads c =
    found_end c.in-Ok-leaves_of.leaves c.in-Ok.ends c.args.end.now c.args.accums.now c.in-Ok.ensures c.in-Ok-leaves_of.ensures.ends c.in-Ok-leaves_of.ensures.edge c.in-Ok-leaves_of.ensures.cells
