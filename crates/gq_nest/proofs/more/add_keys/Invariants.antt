use Rattle.std.proofs.Common.{◌≡◌, map, false}
use Rattle.gq_value.specs.Views.{val}
use Rattle.gq_value.specs.Order.{place}
use Rattle.gq_accum_laws.specs.Gather.{into, put, distinct}
use Rattle.gq_nest.proofs.more.add_keys.Given as goal

abbrev pub invariant-loop-key : goal.invariant-loop-key
invariant-loop-key l = into (put place false) (map val l.key-iterator) (distinct place (map val l.keys.keys)) ≡ into (put place false) (map val l.more.keys) (distinct place (map val l.initial.keys.keys))
