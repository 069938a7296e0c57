-- Walks: the entries that are left to come.
use Rattle.std.specs.Prelude.{List}
use Rattle.gq_nest.specs.declared.iter.Walk.{Walk}
use Rattle.gq_nest.specs.declared.iter.Walk.TheVariants.{Few, Many}

abbrev pub left_in : {K X : Type 0} → Walk K X → List (K × X)
left_in (Few rest) = rest.now
left_in (Many tree) = tree
