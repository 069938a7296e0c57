use Rattle.std.proofs.Common.{map}
use Rattle.gq_rules_calendar.specs.Gregorian.{gregorian}
use Rattle.gq_plan_ir.specs.BlockView.{view_change}
use Rattle.gq_frame.specs.Names.{alias_of}
use Rattle.gq_exec_post.specs.Writing.{left}
use Rattle.gq_exec_post.proofs.WriteLemmas.{put_taken, write_made, write_stops}
use Rattle.gq_exec_post.proofs.acts.write.Goals as goal

pub returns-in-Err-clause-told : goal.returns-in-Err-clause-told
returns-in-Err-clause-told c =
    write_stops gregorian c.args.over.now (map alias_of c.args.aliases.now) c.args.to.0 c.args.to.1 (view_change c.args.change.now) c.args.writing.now c.in-Err.halt c.fault_at.result c.in-Err.ensures c.fault_at.ensures

pub returns-in-Ok-clause-told : goal.returns-in-Ok-clause-told
returns-in-Ok-clause-told c =
    write_made gregorian c.args.over.now (map alias_of c.args.aliases.now) c.args.to.0 c.args.to.1 (view_change c.args.change.now) c.args.writing.now c.in-Ok.made (left c.put_in.result c.put_in.new.writing) c.in-Ok.ensures c.put_in.ensures

pub returns-in-Ok-clause-taken : goal.returns-in-Ok-clause-taken
returns-in-Ok-clause-taken c = put_taken c.in-Ok.made c.args.to.0 c.args.to.1 c.args.writing.now c.put_in.new.writing c.put_in.result c.put_in.ensures c.requires.taken
