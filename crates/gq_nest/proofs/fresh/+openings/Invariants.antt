use Rattle.std.proofs.Common.{take}
use Rattle.gq_nest.specs.Shows.{AreFresh}
use Rattle.gq_nest.proofs.fresh.+openings.Given as goal

-- as many parts as were gone over are there
abbrev pub invariant-fresh_parts-loop-kind : goal.invariant-fresh_parts-loop-kind
invariant-fresh_parts-loop-kind l = AreFresh (take l.kind-index l.parts) l.contents
