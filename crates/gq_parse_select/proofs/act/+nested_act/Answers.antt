use Rattle.std.proofs.Common.{arith}
use Rattle.gq_parse_select.proofs.LevelLemmas.{no_act_levels, act_level}
use Rattle.gq_parse_select.proofs.act.+nested_act.Goals as goal

pub returns-then-levels-eq0 : goal.returns-then-levels-eq0
returns-then-levels-eq0 t c = no_act_levels c.args.levels _ c.if-levels-eq0.true

pub returns : goal.returns
returns t c = act_level c.args.levels c.args.source.now c.args.at c.act_in.result (omega arith) c.act_in.ensures
