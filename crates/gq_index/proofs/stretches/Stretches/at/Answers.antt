use Rattle.std.proofs.Common.{rules, arith}
use Rattle.gq_index.proofs.stretches.Stretches.at.Goals as goal

pub tick-requires : goal.tick-requires
tick-requires c = omega (arith, c.number_of-number.ensures.counted 63 (search rules))
