use Rattle.std.proofs.Common.{◌*◌, length}
use Rattle.std.specs.Fork.{slice_chunk}
use Rattle.gq_rules_calendar.specs.Gregorian.{gregorian}
use Rattle.gq_stripe.specs.Seats as stripes
use Rattle.gq_words.specs.Seats as marked
use Rattle.gq_workers.specs.Working.{task_job}
use Rattle.gq_workers.proofs.WorkingLemmas.{gathered_fits, does_chunk}
use Rattle.gq_workers.proofs.seats.do_chunk.Goals as goal

pub put-requires-clause-fit : goal.put-requires-clause-fit
put-requires-clause-fit g c = gathered_fits (task_job gregorian c.args.over.now c.args.task.now (length c.args.room.now.batches)) (c.args.chunk * c.args.task.now.size) (slice_chunk c.args.task.now.candidates.now c.args.task.now.size c.args.chunk)
    c.gather_chunk.new.room.batches (marked.view_of c.args.word_seat.now) (marked.view_of c.gather_chunk.new.seat) c.in_ok-gather_chunk.ensures.gathers
    (stripes.plan_of c.args.book.now) (marked.openings_of c.args.words.now) c.requires.tables c.in_ok-are_few.ensures

pub returns-clause-does : goal.returns-clause-does
returns-clause-does g c = does_chunk (task_job gregorian c.args.over.now c.args.task.now (length c.args.room.now.batches)) c.args.chunk c.gather_chunk.new.room.batches c.put.result (stripes.view_of c.args.seat.now) (stripes.view_of c.put.new.seat)
    (marked.view_of c.args.word_seat.now) (marked.view_of c.gather_chunk.new.seat) c.in_ok-gather_chunk.ensures.gathers c.put.ensures.put
