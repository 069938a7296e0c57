use Rattle.gq_parse_select.proofs.LevelLemmas.{input_result}
use Rattle.gq_parse_select.proofs.input.input.Goals as goal

pub returns : goal.returns
returns c = input_result c.args.source.now c.args.at c.len.result c.nested_input.result c.len.ensures c.nested_input.ensures
