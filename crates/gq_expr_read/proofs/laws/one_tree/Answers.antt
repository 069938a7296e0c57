use Rattle.gq_expr_read.proofs.Productions.{one_tree}
use Rattle.gq_expr_read.proofs.laws.one_tree.Goals as goal

pub returns : goal.returns
returns c = one_tree
