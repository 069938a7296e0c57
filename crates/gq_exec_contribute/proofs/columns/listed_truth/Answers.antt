use Rattle.std.proofs.Common.{rules}
use Rattle.gq_exec_contribute.proofs.columns.listed_truth.Goals as goal

pub returns-in-Some-get : goal.returns-in-Some-get
returns-in-Some-get c = record { vertex = c.in-Some.vertex; at = (search rules); slot = (search rules); there = (search rules) }
