use Rattle.std.proofs.Common.{take}
use Rattle.gq_workers.specs.Running.{AddsInputs}
use Rattle.gq_workers.proofs.found.add_inputs.Given as goal

abbrev pub invariant-loop-place : goal.invariant-loop-place
invariant-loop-place l = AddsInputs (take l.place l.inputs) l.initial.into l.into
