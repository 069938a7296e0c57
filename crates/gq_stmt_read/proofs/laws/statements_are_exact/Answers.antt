use Rattle.gq_stmt_read.proofs.StatementReads.{statement_exact, statement_one}
use Rattle.gq_stmt_read.proofs.laws.statements_are_exact.Goals as goal

pub returns-clause-exact : goal.returns-clause-exact
returns-clause-exact c = statement_exact

pub returns-clause-one_tree : goal.returns-clause-one_tree
returns-clause-one_tree c = statement_one
