use Rattle.std.proofs.Common.{rules}
use Rattle.gq_exec_contribute.proofs.AskedLemmas.{int_keyed}
use Rattle.gq_exec_contribute.proofs.asked.has_int_key.Goals as goal

pub returns-in-Keyed : goal.returns-in-Keyed
returns-in-Keyed c = λ slots are one. int_keyed slots c.args.leaves.now.cells c.args.slot c.in-Keyed.count c.in-Keyed.field-1 c.in-Some.cells.now (search rules) c.in-Keyed.is (search rules) are
