use Rattle.std.proofs.Common.{arith}
use Rattle.gq_parse_common.proofs.LevelLemmas.{no_levels, level}
use Rattle.gq_parse_common.proofs.kind.+kind.Goals as goal

pub returns-then-levels-eq0 : goal.returns-then-levels-eq0
returns-then-levels-eq0 t c = no_levels c.args.levels _ c.if-levels-eq0.true

pub returns : goal.returns
returns t c = level c.args.levels c.args.source.now c.args.at c.kind_in.result (omega arith) c.kind_in.ensures
