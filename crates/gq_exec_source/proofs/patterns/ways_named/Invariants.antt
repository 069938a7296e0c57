use Rattle.std.proofs.Common.{◌≡◌, ◌++◌, drop}
use Rattle.std.specs.List.{filter_map}
use Rattle.gq_exec_source.specs.Seen.{own_way_of}
use Rattle.gq_exec_source.proofs.patterns.ways_named.Given as goal

abbrev pub invariant-loop-way : goal.invariant-loop-way
invariant-loop-way l = filter_map (own_way_of l.own) l.ways ≡ l.named.items ++ filter_map (own_way_of l.own) (drop l.way-index l.ways)
