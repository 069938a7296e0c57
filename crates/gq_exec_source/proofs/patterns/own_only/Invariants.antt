use Rattle.std.proofs.Common.{◌≡◌, ◌++◌, drop}
use Rattle.std.specs.List.{filter_map}
use Rattle.gq_exec_source.specs.Seen.{own_of}
use Rattle.gq_exec_source.proofs.patterns.own_only.Given as goal

abbrev pub invariant-loop-t : goal.invariant-loop-t
invariant-loop-t l = filter_map (own_of l.own) l.types ≡ l.named.items ++ filter_map (own_of l.own) (drop l.t-index l.types)
