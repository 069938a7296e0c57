use Rattle.std.proofs.Common.{rules}
use Rattle.gq_exec_contribute.proofs.ColumnLemmas.{int_listed}
use Rattle.gq_exec_contribute.proofs.columns.listed_int.Goals as goal

pub returns-in-Some : goal.returns-in-Some
returns-in-Some c = int_listed c.args.column.now c.args.at.now c.args.c.now c.in-Some.vertex c.int_of_vertex.result (search rules) (search rules) c.int_of_vertex.ensures
