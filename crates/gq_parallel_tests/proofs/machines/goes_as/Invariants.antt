use Rattle.gq_core.specs.Accounts.{IsInOrder}
use Rattle.gq_parallel_tests.proofs.machines.goes_as.Given as goal

-- each event leaves the core in order
abbrev pub invariant-loop-event : goal.invariant-loop-event
invariant-loop-event l = IsInOrder l.job l.core
