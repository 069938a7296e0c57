use Rattle.gq_exec_contribute.proofs.FilterLemmas.{end_made}
use Rattle.gq_exec_contribute.proofs.filters.end_behind.Goals as goal

pub returns-in-len1 : goal.returns-in-len1
returns-in-len1 c = end_made c.args.leaves.now c.args.first.now c.args.parts.now c.in-Name.place c.part-item.result c.end_part.result c.in-Name.is c.in-len1.len_at_least c.in-len1.len_below c.part-item.is c.end_part.ensures
