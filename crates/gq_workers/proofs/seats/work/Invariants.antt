use Rattle.std.proofs.Common.{◌≡◌, ℕ, List, length}
use Rattle.gq_rules_calendar.specs.Gregorian.{gregorian}
use Rattle.gq_stripe.specs.Seats as stripes
use Rattle.gq_words.specs.Seats as marked
use Rattle.gq_workers.specs.Working.{DoesChunks, task_job}
use Rattle.gq_workers.proofs.seats.work.Given as goal

abbrev pub invariant-loop : goal.invariant-loop
invariant-loop g l = stripes.IsIdle l.book l.seat × stripes.IsSameSeat l.fn.seat l.seat × marked.IsSeatOf l.words l.word_seat × marked.IsSameSeat l.fn.word_seat l.word_seat
    × (length l.room.batches ≡ l.shape.stripes)
    × ((chunks : List ℕ) × DoesChunks (task_job gregorian l.over l.task l.shape.stripes) chunks (stripes.view_of l.fn.seat) (stripes.view_of l.seat) (marked.view_of l.fn.word_seat) (marked.view_of l.word_seat))
