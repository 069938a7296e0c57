use Rattle.std.proofs.Common.{map}
use Rattle.gq_rules_calendar.specs.Gregorian.{gregorian}
use Rattle.gq_plan_ir.specs.BlockView.{view_change}
use Rattle.gq_frame.specs.Names.{alias_of}
use Rattle.gq_exec_post.proofs.WaitLemmas.{wait_more, wait_stops, wait_taken}
use Rattle.gq_exec_post.proofs.acts.wait_evaluated.Goals as goal

pub returns-in-Err-clause-told : goal.returns-in-Err-clause-told
returns-in-Err-clause-told c =
    wait_stops gregorian c.args.over.now (map alias_of c.args.aliases.now) c.args.to.0 c.args.to.1 (view_change c.args.change.now) c.args.writing.now c.in-Err.halt c.fault_at.result c.in-Err.ensures c.fault_at.ensures

pub returns-in-Ok-queue-clause-told : goal.returns-in-Ok-queue-clause-told
returns-in-Ok-queue-clause-told c =
    wait_more gregorian c.args.over.now (map alias_of c.args.aliases.now) c.args.to.0 c.args.to.1 (view_change c.args.change.now) c.args.writing.now c.in-Ok.input c.queue.new.waiting c.in-Ok.ensures c.in-Ok-queue.ensures

pub returns-in-Ok-queue-clause-taken : goal.returns-in-Ok-queue-clause-taken
returns-in-Ok-queue-clause-taken c =
    wait_taken gregorian c.args.over.now (map alias_of c.args.aliases.now) c.args.to.0 c.args.to.1 (view_change c.args.change.now) c.args.writing.now c.in-Ok.input c.queue.new.waiting c.requires.taken c.in-Ok-queue.ensures
