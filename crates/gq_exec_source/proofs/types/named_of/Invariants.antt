use Rattle.std.proofs.Common.{◌≡◌, take}
use Rattle.std.specs.Prelude.{filter}
use Rattle.gq_graph.specs.Candidates.{among}
use Rattle.gq_exec_source.proofs.types.named_of.Given as goal

abbrev pub invariant-loop-kind : goal.invariant-loop-kind
invariant-loop-kind l = l.kept ≡ filter (among l.own) (take l.kind-index l.kinds)
