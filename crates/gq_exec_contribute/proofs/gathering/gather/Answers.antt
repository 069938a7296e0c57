use Rattle.std.proofs.Common.{rules}
use Rattle.gq_rules_calendar.specs.Gregorian.{gregorian}
use Rattle.gq_exec_contribute.proofs.GatherLemmas.{gathered_more}
use Rattle.gq_exec_contribute.proofs.gathering.gather.Goals as goal

pub loop-act-preserved : goal.loop-act-preserved
loop-act-preserved c = gathered_more gregorian c.args.over.now c.args.leaves.now c.args.c.now c.args.acts.now c.loop-act.act-index c.act-item.result c.args.into.now c.loop-act.into c.add_act.new.into c.in_ok-add_act.field-0 c.loop-act-test.true (search rules) (search rules) c.in_ok-add_act.ensures c.loop-act.invariant
