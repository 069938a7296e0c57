use Rattle.gq_rules_calendar.specs.Gregorian.{gregorian}
use Rattle.gq_exec_contribute.specs.Prepared.{sees_in}
use Rattle.gq_exec_contribute.proofs.RowLemmas.{part_added}
use Rattle.gq_exec_contribute.proofs.reading.add_part.Goals as goal

pub returns-in-One : goal.returns-in-One
returns-in-One c = λ added. part_added (sees_in gregorian c.args.over.now c.args.leaves.now c.args.accums.now c.args.c.now) c.args.part.now c.in-One.expr c.args.row.now c.add_key.new.row c.in-One.is (c.add_key.ensures added)
