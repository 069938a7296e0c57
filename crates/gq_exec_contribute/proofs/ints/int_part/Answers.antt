use Rattle.gq_rules_calendar.specs.Gregorian.{gregorian}
use Rattle.gq_exec_contribute.specs.Prepared.{sees_in}
use Rattle.gq_exec_contribute.proofs.ReadLemmas.{int_attached, int_field}
use Rattle.gq_exec_contribute.proofs.ints.int_part.Goals as goal

pub returns-in-Some : goal.returns-in-Some
returns-in-Some c = int_attached gregorian c.args.over.now c.args.leaves.now c.args.accums.now c.args.c.now c.args.place c.in-Attached.slot c.in-Some.vertex c.args.part.now c.held_int.result c.in-Attached.is c.in-Some.ensures c.held_int.ensures

pub returns-in-Field : goal.returns-in-Field
returns-in-Field c = int_field (sees_in gregorian c.args.over.now c.args.leaves.now c.args.accums.now c.args.c.now) c.args.place c.args.part.now c.in-Field.field c.field_int.result c.in-Field.is c.field_int.ensures
