use Rattle.std.proofs.Common.{◌≡◌, ◌++◌, drop, map}
use Rattle.std.specs.List.{filter_map, flat_map}
use Rattle.gq_rules_typing.specs.Patterns.{ends_of, way_of}
use Rattle.gq_plan_ir.specs.Reference as reference
use Rattle.gq_exec_source.specs.Seen.{setting_for, sorts_for}
use Rattle.gq_exec_source.proofs.patterns.step_far.Given as goal

abbrev pub invariant-loop-way : goal.invariant-loop-way
invariant-loop-way l =
    let sorts = sorts_for l.catalog l.plan in
    let W = way_of (setting_for l.catalog l.plan) in
    flat_map (ends_of sorts) (filter_map W (map (λ w. (w.0, reference.EdgeType w.1)) l.ways)) ≡ l.far.items ++ flat_map (ends_of sorts) (filter_map W (map (λ w. (w.0, reference.EdgeType w.1)) (drop l.way-index l.ways)))
