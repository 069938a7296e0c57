use Rattle.std.proofs.Common.{arith}
use Rattle.gq_parse_select.proofs.LevelLemmas.{no_input_levels, input_level}
use Rattle.gq_parse_select.proofs.input.+nested_input.Goals as goal

pub returns-then-levels-eq0 : goal.returns-then-levels-eq0
returns-then-levels-eq0 t c = no_input_levels c.args.levels _ c.if-levels-eq0.true

pub returns : goal.returns
returns t c = input_level c.args.levels c.args.source.now c.args.at c.input_in.result (omega arith) c.input_in.ensures
