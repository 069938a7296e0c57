use Rattle.gq_core.specs.declared.event.Event.TheVariants.{Draw, Ticket, Look, Lift, Lay, Leave, Split, Join}
use Rattle.gq_core.specs.Machine.{happens}
use Rattle.gq_core.proofs.OrderLemmas.{order_after}
use Rattle.gq_core.proofs.StepLemmas.{tells_order, answer_order}
use Rattle.gq_core.proofs.machine.step.Goals as goal

pub returns-in-Draw-clause-order : goal.returns-in-Draw-clause-order
returns-in-Draw-clause-order c = answer_order c.args.job.now c.args.core.now c.draw.new.self (happens c.args.job.now c.args.core.now (Draw c.in-Draw.w)) c.draw.result c.requires (order_after c.args.job.now c.args.core.now c.requires (Draw c.in-Draw.w)) c.draw.ensures.ok c.draw.ensures.err

pub returns-in-Ticket-clause-order : goal.returns-in-Ticket-clause-order
returns-in-Ticket-clause-order c = tells_order c.args.job.now c.args.core.now c.ticket.new.self (happens c.args.job.now c.args.core.now (Ticket c.in-Ticket.w)) c.ticket.result c.requires (order_after c.args.job.now c.args.core.now c.requires (Ticket c.in-Ticket.w)) c.ticket.ensures

pub returns-in-Look-clause-order : goal.returns-in-Look-clause-order
returns-in-Look-clause-order c = tells_order c.args.job.now c.args.core.now c.look.new.self (happens c.args.job.now c.args.core.now (Look c.in-Look.w)) c.look.result c.requires (order_after c.args.job.now c.args.core.now c.requires (Look c.in-Look.w)) c.look.ensures

pub returns-in-Lift-clause-order : goal.returns-in-Lift-clause-order
returns-in-Lift-clause-order c = tells_order c.args.job.now c.args.core.now c.lift.new.self (happens c.args.job.now c.args.core.now (Lift c.in-Lift.w)) c.lift.result c.requires (order_after c.args.job.now c.args.core.now c.requires (Lift c.in-Lift.w)) c.lift.ensures

pub returns-in-Lay-clause-order : goal.returns-in-Lay-clause-order
returns-in-Lay-clause-order c = answer_order c.args.job.now c.args.core.now c.lay.new.self (happens c.args.job.now c.args.core.now (Lay c.in-Lay.w)) c.lay.result c.requires (order_after c.args.job.now c.args.core.now c.requires (Lay c.in-Lay.w)) c.lay.ensures.ok c.lay.ensures.err

pub returns-in-Leave-clause-order : goal.returns-in-Leave-clause-order
returns-in-Leave-clause-order c = answer_order c.args.job.now c.args.core.now c.leave.new.self (happens c.args.job.now c.args.core.now (Leave c.in-Leave.w)) c.leave.result c.requires (order_after c.args.job.now c.args.core.now c.requires (Leave c.in-Leave.w)) c.leave.ensures.ok c.leave.ensures.err

pub returns-in-Split-clause-order : goal.returns-in-Split-clause-order
returns-in-Split-clause-order c = answer_order c.args.job.now c.args.core.now c.split.new.self (happens c.args.job.now c.args.core.now (Split c.in-Split.w)) c.split.result c.requires (order_after c.args.job.now c.args.core.now c.requires (Split c.in-Split.w)) c.split.ensures.ok c.split.ensures.err

pub returns-in-Join-clause-order : goal.returns-in-Join-clause-order
returns-in-Join-clause-order c = answer_order c.args.job.now c.args.core.now c.join.new.self (happens c.args.job.now c.args.core.now (Join c.in-Join.w c.in-Join.x)) c.join.result c.requires (order_after c.args.job.now c.args.core.now c.requires (Join c.in-Join.w c.in-Join.x)) c.join.ensures.ok c.join.ensures.err
