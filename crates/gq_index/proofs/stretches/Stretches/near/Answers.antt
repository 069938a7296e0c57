use Rattle.std.proofs.Common.{rules, arith}
use Rattle.gq_index.proofs.stretches.Stretches.near.Goals as goal

pub tick-requires-2 : goal.tick-requires-2
tick-requires-2 c = omega (arith, c.number_behind-number.ensures.counted 63 (search rules))
