use Rattle.std.proofs.Common.{◌≡◌, filter}
use Rattle.gq_schema.specs.Members as spec
use Rattle.gq_schema.proofs.catalog.Catalog.edges.Given as goal

abbrev pub invariant-loop-number : goal.invariant-loop-number
invariant-loop-number l = l.numbers ≡ filter (spec.has_edge_marked l.self l.named) (spec.below l.number)
