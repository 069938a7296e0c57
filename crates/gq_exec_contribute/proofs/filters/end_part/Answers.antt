use Rattle.std.proofs.Common.{rules}
use Rattle.gq_exec_contribute.proofs.FilterLemmas.{part_made}
use Rattle.gq_exec_contribute.proofs.filters.end_part.Goals as goal

pub returns-in-Some-get : goal.returns-in-Some-get
returns-in-Some-get c = part_made c.args.leaves.now c.args.place c.in-Attached.slot c.in-Some.is_target c.in-Some-get.cells.now c.args.part.now c.in-Attached.is c.in-Some.ensures (search rules)
