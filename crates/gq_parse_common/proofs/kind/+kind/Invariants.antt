use Rattle.gq_parse_common.proofs.kind.+kind.Given as goal

abbrev pub decreases-kind : goal.decreases-kind
decreases-kind l = l.levels
