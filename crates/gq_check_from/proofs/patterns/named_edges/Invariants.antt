use Rattle.std.proofs.Common.{◌≡◌, ◌++◌, drop}
use Rattle.std.specs.List.{filter_map}
use Rattle.gq_scope.specs.Held.{setting_in}
use Rattle.gq_check_from.proofs.patterns.named_edges.Given as goal

abbrev pub invariant-loop-name : goal.invariant-loop-name
invariant-loop-name l =
    filter_map (setting_in l.scope).words.edge_type l.names ≡ l.types ++ filter_map (setting_in l.scope).words.edge_type (drop l.name-index l.names)
