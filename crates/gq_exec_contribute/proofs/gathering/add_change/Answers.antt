use Rattle.std.proofs.Common.{rules}
use Rattle.gq_exec_contribute.proofs.GatherLemmas.{one_input}
use Rattle.gq_exec_contribute.proofs.gathering.add_change.Goals as goal

pub returns-in_ok-push-in-Some : goal.returns-in_ok-push-in-Some
returns-in_ok-push-in-Some c = one_input c.args.over.now.frame.accums.slots _ c.args.into.now c.push.new.self (c.in-Some.target, c.read_input.new.input) c.in-Some.ensures (search rules)
