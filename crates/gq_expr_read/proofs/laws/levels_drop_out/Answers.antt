use Rattle.gq_expr_read.proofs.Growth.{out_of, into}
use Rattle.gq_expr_read.proofs.laws.levels_drop_out.Goals as goal

pub returns-clause-out : goal.returns-clause-out
returns-clause-out c = out_of

pub returns-clause-back : goal.returns-clause-back
returns-clause-back c = into
