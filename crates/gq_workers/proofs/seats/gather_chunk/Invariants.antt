use Rattle.std.proofs.Common.{◌≡◌, ◌-◌, ◌≤◌, length, take, drop}
use Rattle.gq_rules_calendar.specs.Gregorian.{gregorian}
use Rattle.gq_words.specs.Seats as marked
use Rattle.gq_workers.specs.Working.{Gathers, task_job}
use Rattle.gq_workers.proofs.seats.gather_chunk.Given as goal

abbrev pub invariant-loop-place : goal.invariant-loop-place
invariant-loop-place l = marked.IsSeatOf l.words l.seat × marked.IsSameSeat l.fn.seat l.seat × (length l.room.batches ≡ length l.fn.room.batches) × (l.start ≤ l.place)
    × Gathers (task_job gregorian l.over l.task (length l.fn.room.batches)) l.start (take (l.place - l.start) (drop l.start l.task.candidates.now)) l.room.batches (marked.view_of l.fn.seat) (marked.view_of l.seat)
