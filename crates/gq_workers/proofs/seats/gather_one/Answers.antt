use Rattle.std.proofs.Common.{refl, subst, length}
use Rattle.gq_rules_calendar.specs.Gregorian.{gregorian}
use Rattle.gq_words.specs.Seats as marked
use Rattle.gq_exec_contribute.specs.Passing.{Comes}
use Rattle.gq_workers.specs.Running.{comes}
use Rattle.gq_workers.specs.Working.{task_job}
use Rattle.gq_workers.proofs.WorkingLemmas.{gathers_fault, gathers_filtered, gathers_passed}
use Rattle.gq_workers.proofs.seats.gather_one.Goals as goal

pub returns-in-Fault-clause-gathers : goal.returns-in-Fault-clause-gathers
returns-in-Fault-clause-gathers c =
    gathers_fault (task_job gregorian c.args.over.now c.args.task.now (length c.args.room.now.batches)) c.args.place c.args.candidate.now c.args.room.now.batches c.outcome_of.new.into (marked.view_of c.args.seat.now) (marked.view_of c.feed_min.new.seat) c.in-Fault.field-0
    (subst (Comes c.args.over.now.frame.accums.slots c.args.candidate.now (comes gregorian c.args.over.now c.args.task.now.block.now c.args.task.now.ends.now c.args.task.now.edge c.args.candidate.now) c.args.room.now.batches c.outcome_of.new.into) c.in-Fault.is c.in_ok-tried.ensures)
    c.feed_min.ensures.fed

pub returns-in-Filtered-clause-gathers : goal.returns-in-Filtered-clause-gathers
returns-in-Filtered-clause-gathers c =
    gathers_filtered (task_job gregorian c.args.over.now c.args.task.now (length c.args.room.now.batches)) c.args.place c.args.candidate.now c.args.room.now.batches c.outcome_of.new.into (marked.view_of c.args.seat.now) (marked.view_of c.args.seat.now)
    (subst (Comes c.args.over.now.frame.accums.slots c.args.candidate.now (comes gregorian c.args.over.now c.args.task.now.block.now c.args.task.now.ends.now c.args.task.now.edge c.args.candidate.now) c.args.room.now.batches c.outcome_of.new.into) c.in-Filtered.is c.in_ok-tried.ensures)
    refl

pub returns-in-Passed-clause-gathers : goal.returns-in-Passed-clause-gathers
returns-in-Passed-clause-gathers c =
    gathers_passed (task_job gregorian c.args.over.now c.args.task.now (length c.args.room.now.batches)) c.args.place c.args.candidate.now c.args.room.now.batches c.outcome_of.new.into (marked.view_of c.args.seat.now) (marked.view_of c.mark_ends.new.seat)
    (subst (Comes c.args.over.now.frame.accums.slots c.args.candidate.now (comes gregorian c.args.over.now c.args.task.now.block.now c.args.task.now.ends.now c.args.task.now.edge c.args.candidate.now) c.args.room.now.batches c.outcome_of.new.into) c.in-Passed.is c.in_ok-tried.ensures)
    c.mark_ends.ensures.fed
