use Rattle.gq_parse_select.proofs.act.+nested_act.Given as goal

abbrev pub decreases-nested_act : goal.decreases-nested_act
decreases-nested_act l = l.levels
