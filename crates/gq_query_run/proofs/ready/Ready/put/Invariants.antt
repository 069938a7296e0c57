use Rattle.std.proofs.Common.{◌≡◌, ℕ, length}
use Rattle.gq_query_run.specs.Ready.{ready_at}
use Rattle.gq_query_run.proofs.ready.Ready.put.Given as goal

-- nothing more is prepared so far
abbrev pub invariant-loop : goal.invariant-loop
invariant-loop g l = (l.counter ≡ length l.self.plans) × ((k : ℕ) → ready_at l.self.plans k ≡ ready_at l.fn.self.plans k)
