use Rattle.std.proofs.Common.{◌+◌, ◌*◌}
use Rattle.gq_value.specs.AccumViews.{accum_of}
use Rattle.gq_rules_typing.specs.Kinds.{part_kinds}
use Rattle.gq_exec_contribute.proofs.InputLemmas.{FedTo}
use Rattle.gq_exec_contribute.proofs.inputs.+feed.Given as goal

-- the inputs so far, followed by the remaining parts
abbrev pub invariant-run_parts-loop-place : goal.invariant-run_parts-loop-place
invariant-run_parts-loop-place g l = FedTo (g.V.Sees.look l.sight) (part_kinds (accum_of l.kind)) l.feeds l.place l.inputs

abbrev pub decreases-run_feed : goal.decreases-run_feed
decreases-run_feed g l = 8 * goal.size-run_feed g l

abbrev pub decreases-run_parts : goal.decreases-run_parts
decreases-run_parts g l = 8 * goal.size-run_parts g l + 3
