use Rattle.gq_stripe.specs.Seats.{IsIdle}
use Rattle.gq_parallel_tests.proofs.threads.fill.Given as goal

-- the seat may draw
abbrev pub invariant-loop : goal.invariant-loop
invariant-loop g l = IsIdle l.book l.seat
