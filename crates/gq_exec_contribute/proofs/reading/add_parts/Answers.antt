use Rattle.std.proofs.Common.{rules}
use Rattle.gq_rules_calendar.specs.Gregorian.{gregorian}
use Rattle.gq_exec_contribute.specs.Prepared.{IsPart, sees_in}
use Rattle.gq_exec_contribute.proofs.RowLemmas.{adds_none, adds_more}
use Rattle.gq_exec_contribute.proofs.reading.add_parts.Goals as goal

pub loop-part-init : goal.loop-part-init
loop-part-init c = adds_none (IsPart (sees_in gregorian c.args.over.now c.args.leaves.now c.args.accums.now c.args.c.now)) c.args.parts.now c.args.row.now

pub loop-part-preserved : goal.loop-part-preserved
loop-part-preserved c = adds_more (IsPart (sees_in gregorian c.args.over.now c.args.leaves.now c.args.accums.now c.args.c.now)) c.args.parts.now c.loop-part.part-index c.part-item.result c.part-item.result c.args.row.now c.loop-part.row c.add_part.new.row (search rules) (search rules) (c.add_part.ensures (search rules)) c.loop-part.invariant
