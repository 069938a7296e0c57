use Rattle.std.proofs.Common.{◌≡◌, ◌-◌, length}
use Rattle.gq_exec_vars.specs.Begun.{no_accums}
use Rattle.gq_exec_vars.proofs.NameLemmas.{BoundFrom}
use Rattle.gq_exec_vars.proofs.parameters.bound.Given as goal

-- the last ones are bound, as many as iterations
abbrev pub invariant-loop-turn : goal.invariant-loop-turn
invariant-loop-turn l = record {
  bound : BoundFrom l.plan l.arguments l.live (l.count - l.turn);
  accums : l.live.frame.accums ≡ no_accums (length l.graph.store.now.vertices);
}
