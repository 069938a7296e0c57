use Rattle.std.proofs.Common.{◌≡◌, drop}
use Rattle.gq_rules_calendar.specs.Gregorian.{gregorian}
use Rattle.gq_exec_control.specs.Contexts.{world_on}
use Rattle.gq_exec_control.specs.Locals.{base_declared}
use Rattle.gq_exec_control.proofs.LocalLemmas.{Declares}
use Rattle.gq_exec_control.proofs.locals.declare.Given as goal

abbrev pub invariant-loop-local : goal.invariant-loop-local
invariant-loop-local l = record {
  declares : Declares (world_on gregorian l.context) (base_declared l.declared) l.locals (drop l.local-index l.locals) l.fn.live l.live;
  accums : l.live.frame.accums ≡ l.fn.live.frame.accums;
}
