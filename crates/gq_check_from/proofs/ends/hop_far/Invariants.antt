use Rattle.std.proofs.Common.{◌≡◌, ◌++◌, drop, None}
use Rattle.std.specs.List.{flat_map}
use Rattle.gq_rules_typing.specs.Sorts.{sorts_of}
use Rattle.gq_rules_typing.specs.Patterns.{ends_of}
use Rattle.gq_check_from.specs.Walks.{own_ways}
use Rattle.gq_check_from.proofs.ends.hop_far.Given as goal

abbrev pub invariant-loop-t : goal.invariant-loop-t
invariant-loop-t l =
    let sorts = sorts_of l.catalog None in
    flat_map (ends_of sorts) (own_ways sorts l.edges) ≡ l.far.items ++ flat_map (ends_of sorts) (own_ways sorts (drop l.t-index l.edges))
