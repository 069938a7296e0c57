-- Runs: the kinds of the targets of runs.
use Rattle.std.specs.Prelude.{List, flat_map, replicate}
use Rattle.gq_value.specs.declared.kind.Kind.{Kind}
use Rattle.gq_stripe.specs.declared.layout.Run.{Run}

abbrev pub kinds_in : List Run → List Kind
kinds_in runs = flat_map (λ r. replicate r.targets r.kind) runs
