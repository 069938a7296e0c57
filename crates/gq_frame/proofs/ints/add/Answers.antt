use Rattle.std.proofs.Common.{rules}
use Rattle.gq_frame.proofs.IntLemmas.{adds_sum, adds_min, adds_max, adds_either, adds_both, adds_mean}
use Rattle.gq_frame.proofs.ints.add.Goals as goal

pub returns-in-SumInt : goal.returns-in-SumInt
returns-in-SumInt c = adds_sum _ _ _ _ _ _ _ (search rules) c.from.ensures c.get.ensures c.of.ensures c.total.ensures c.in-SumInt.is

pub returns-in-MinInt : goal.returns-in-MinInt
returns-in-MinInt c = adds_min _ _ _ _ (search rules) (search rules) (search rules) c.min.ensures.value c.in-MinInt.is

pub returns-in-MaxInt : goal.returns-in-MaxInt
returns-in-MaxInt c = adds_max _ _ _ _ (search rules) (search rules) (search rules) c.max.ensures.value c.in-MaxInt.is

pub returns-in-BitOr : goal.returns-in-BitOr
returns-in-BitOr c = adds_either _ _ _ (search rules) (search rules) c.in-BitOr.is

pub returns-in-BitAnd : goal.returns-in-BitAnd
returns-in-BitAnd c = adds_both _ _ _ (search rules) (search rules) c.in-BitAnd.is

pub returns-in-Avg : goal.returns-in-Avg
returns-in-Avg c = adds_mean _ _ _ _ _ _ _ _ _ _ (search rules) c.from-in-Avg.ensures c.get-in-Avg.ensures c.of-mean.ensures c.total-in-Avg.ensures c.get-in-Avg-2.ensures c.of-mean-in-Avg.ensures c.count.ensures c.in-Avg.is
