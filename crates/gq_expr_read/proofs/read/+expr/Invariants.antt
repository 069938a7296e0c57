use Rattle.gq_expr_read.proofs.read.+expr.Given as goal

abbrev pub decreases-expr : goal.decreases-expr
decreases-expr l = l.levels
