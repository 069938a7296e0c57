use Rattle.std.proofs.Common.{◌≡◌, ◌+◌, length}
use Rattle.gq_value.specs.AccumViews.{accum_of}
use Rattle.gq_rules_calendar.specs.Gregorian.{gregorian}
use Rattle.gq_exec_vars.specs.Begun.{AreReady, world_with}
use Rattle.gq_exec_vars.proofs.OpenLemmas.{GoesAccums}
use Rattle.gq_exec_vars.proofs.accums.accums.Given as goal

-- the accumulators visited so far are added
abbrev pub invariant-loop-tree : goal.invariant-loop-tree
invariant-loop-tree l = record {
  goes : GoesAccums (world_with gregorian l.graph l.plan l.tuples) (accum_of l.kind) l.trees l.tree-index l.fn.live l.live;
  ready : AreReady (length l.graph.store.now.vertices) l.live.frame.accums;
  count : length l.live.frame.accums.slots.declared ≡ length l.fn.live.frame.accums.slots.declared + l.tree-index;
}
