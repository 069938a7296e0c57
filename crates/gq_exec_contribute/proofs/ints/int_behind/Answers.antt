use Rattle.gq_rules_calendar.specs.Gregorian.{gregorian}
use Rattle.gq_exec_contribute.specs.Prepared.{sees_in}
use Rattle.gq_exec_contribute.proofs.ReadLemmas.{int_post}
use Rattle.gq_exec_contribute.proofs.ints.int_behind.Goals as goal

pub returns-in-len1 : goal.returns-in-len1
returns-in-len1 c = int_post (sees_in gregorian c.args.over.now c.args.leaves.now c.args.accums.now c.args.c.now) c.args.first.now c.args.parts.now c.in-Name.place c.part-item.result c.int_part.result c.in-Name.is c.in-len1.len_at_least c.in-len1.len_below c.part-item.is c.int_part.ensures
