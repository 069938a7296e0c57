use Rattle.std.proofs.Common.{◌≡◌, take, None}
use Rattle.gq_graph.specs.Edges.{naming_of}
use Rattle.gq_edge.proofs.names.naming_at.Given as goal

abbrev pub invariant-loop-naming : goal.invariant-loop-naming
invariant-loop-naming l = naming_of (take l.naming-index l.namings) l.kind ≡ None
