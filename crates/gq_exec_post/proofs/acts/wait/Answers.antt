use Rattle.std.proofs.Common.{map}
use Rattle.gq_rules_calendar.specs.Gregorian.{gregorian}
use Rattle.gq_plan_ir.specs.BlockView.{view_change}
use Rattle.gq_frame.specs.Names.{alias_of}
use Rattle.gq_exec_contribute.specs.Scalars.{made_of}
use Rattle.gq_exec_post.proofs.ReadLemmas.{input_read}
use Rattle.gq_exec_post.proofs.WaitLemmas.{wait_more, wait_taken}
use Rattle.gq_exec_post.proofs.acts.wait.Goals as goal

pub returns-in-Ok-clause-told : goal.returns-in-Ok-clause-told
returns-in-Ok-clause-told c =
    wait_more gregorian c.args.over.now (map alias_of c.args.aliases.now) c.args.to.0 c.args.to.1 (view_change c.args.change.now) c.args.writing.now (made_of c.in-Some.x) c.queue_read.new.waiting
    (input_read gregorian c.args.over.now c.args.leaves.now c.args.writing.now.accums (map alias_of c.args.aliases.now) c.args.to.1 c.requires.reads c.args.to.0 (view_change c.args.change.now) c.in-Some.x c.in-Some.ensures)
    c.in-Ok.ensures

pub returns-in-Ok-clause-taken : goal.returns-in-Ok-clause-taken
returns-in-Ok-clause-taken c =
    wait_taken gregorian c.args.over.now (map alias_of c.args.aliases.now) c.args.to.0 c.args.to.1 (view_change c.args.change.now) c.args.writing.now (made_of c.in-Some.x) c.queue_read.new.waiting c.requires.taken c.in-Ok.ensures
