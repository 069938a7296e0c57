use Rattle.std.proofs.Common.{◌≡◌, ◌++◌, map, take}
use Rattle.gq_value.specs.Views.{val}
use Rattle.gq_nest.proofs.more.add_items.Given as goal

abbrev pub invariant-loop-item : goal.invariant-loop-item
invariant-loop-item l = map val l.items ≡ map val l.initial.items ++ map val (take l.item-index l.more)
