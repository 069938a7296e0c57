use Rattle.std.proofs.Common.{rules}
use Rattle.gq_exec_contribute.specs.Prepared.{sees_in}
use Rattle.gq_rules_calendar.specs.Gregorian.{gregorian}
use Rattle.gq_exec_contribute.proofs.AskedLemmas.{key_of}
use Rattle.gq_exec_contribute.proofs.asked.key.Goals as goal

pub returns-in-len1 : goal.returns-in-len1
returns-in-len1 c =
    key_of c.args.accums.now (sees_in gregorian c.args.over.now c.args.leaves.now c.args.accums.now c.args.c.now) c.args.slot c.args.arguments.now c.argument-item.result c.short_int.result
    (c.has_int_key.ensures c.args.accums.now.slots c.requires.cells (search rules)) c.in-len1.len_at_least c.in-len1.len_below c.argument-item.is c.short_int.ensures (search rules)
