use Rattle.gq_parse_select.proofs.LevelLemmas.{act_result}
use Rattle.gq_parse_select.proofs.act.act.Goals as goal

pub returns : goal.returns
returns c = act_result c.args.source.now c.args.at c.len.result c.nested_act.result c.len.ensures c.nested_act.ensures
