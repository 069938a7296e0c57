use Rattle.std.proofs.Common.{arith}
use Rattle.gq_index.proofs.RunLemmas.{some_found}
use Rattle.gq_index.proofs.runs.walk_near.Goals as goal

pub overflow_sub-segment : goal.overflow_sub-segment
overflow_sub-segment c = omega (arith, some_found c.requires.holds c.args.place c.requires.within, c.find_near-end.ensures.found)

pub tick-requires : goal.tick-requires
tick-requires c = omega (arith, c.find_near-end.ensures.counted 63 c.requires.short)
