use Rattle.std.proofs.Common.{rules}
use Rattle.gq_exec_contribute.proofs.FilterLemmas.{stands_made}
use Rattle.gq_exec_contribute.proofs.filters.end_content.Goals as goal

pub returns-in-Some-get : goal.returns-in-Some-get
returns-in-Some-get c = stands_made c.args.accums.now c.args.leaves.now c.args.at.now c.args.c.now c.in-Some.vertex c.in-Some-target_in.target c.in-Some-get.content.now c.requires.found c.requires.at (search rules) c.in-Some-target_in.ensures (search rules)
