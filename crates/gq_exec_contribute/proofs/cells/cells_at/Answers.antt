use Rattle.std.proofs.Common.{rules}
use Rattle.gq_exec_contribute.proofs.CellLemmas.{cells_made}
use Rattle.gq_exec_contribute.proofs.cells.cells_at.Goals as goal

pub returns-in-Some-get : goal.returns-in-Some-get
returns-in-Some-get c = cells_made c.args.slots.now c.args.number c.in-Some.slot c.in-Some-get.declared.now (record { first = c.target.result; targets = c.targets.result; takes = c.taken_by.result })
    (search rules) (search rules) (search rules) (search rules) (search rules)
