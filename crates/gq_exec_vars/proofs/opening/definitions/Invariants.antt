use Rattle.std.proofs.Common.{drop, length}
use Rattle.gq_rules_calendar.specs.Gregorian.{gregorian}
use Rattle.gq_exec_vars.specs.Begun.{AreReady}
use Rattle.gq_plan_ir.specs.Numbered.{NumberedFrom}
use Rattle.gq_exec_vars.proofs.OpenLemmas.{GoesDefinitions}
use Rattle.gq_exec_vars.proofs.opening.definitions.Given as goal

-- the definitions visited so far are opened
abbrev pub invariant-loop-definition : goal.invariant-loop-definition
invariant-loop-definition l = record {
  goes : GoesDefinitions gregorian l.graph l.plan l.definition-index l.fn.opened l.opened;
  ready : AreReady (length l.graph.store.now.vertices) l.opened.live.frame.accums;
  next : NumberedFrom (length l.opened.tuples) (length l.opened.live.frame.accums.slots.declared) (drop l.definition-index l.plan.definitions);
}
