use Rattle.gq_parse_query.proofs.levels.+nested.Given as goal

abbrev pub decreases-nested : goal.decreases-nested
decreases-nested l = l.levels
