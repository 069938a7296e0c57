use Rattle.std.proofs.Common.{rules}
use Rattle.gq_exec_contribute.proofs.CellLemmas.{content_there}
use Rattle.gq_exec_contribute.proofs.cells.content_in.Goals as goal

pub returns-in-Some-get : goal.returns-in-Some-get
returns-in-Some-get c = content_there c.args.accums.now c.args.cells.now c.args.slot c.args.vertex c.in-Some-target_in.target c.in-Some.cells.now c.in-Some-get.content.now c.requires.sound c.requires.cells (search rules) c.in-Some-target_in.ensures (search rules)
