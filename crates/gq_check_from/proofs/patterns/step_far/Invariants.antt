use Rattle.std.proofs.Common.{◌≡◌, ◌++◌, drop}
use Rattle.std.specs.List.{filter_map, flat_map}
use Rattle.gq_rules_typing.specs.Patterns.{ends_of, way_of}
use Rattle.gq_scope.specs.Held.{setting_in}
use Rattle.gq_check_from.proofs.patterns.step_far.Given as goal

abbrev pub invariant-loop-way : goal.invariant-loop-way
invariant-loop-way l =
    let s = setting_in l.scope in
    flat_map (ends_of s.sorts) (filter_map (way_of s) l.ways) ≡ l.far.items ++ flat_map (ends_of s.sorts) (filter_map (way_of s) (drop l.way-index l.ways))
