use Rattle.std.proofs.Common.{◌≡◌, length}
use Rattle.gq_nest.specs.Entries.{every}
use Rattle.gq_nest.specs.Shows.{ShowsTheSame}
use Rattle.gq_frame.proofs.page.filled.Given as goal

-- as many copies as iterations
abbrev pub invariant-loop : goal.invariant-loop
invariant-loop l = (length l.items ≡ l.counter) × every (ShowsTheSame l.content) l.items
