use Rattle.gq_parse_select.proofs.input.+nested_input.Given as goal

abbrev pub decreases-nested_input : goal.decreases-nested_input
decreases-nested_input l = l.levels
