use Rattle.std.proofs.Common.{◌≡◌, ◌++◌, take, map}
use Rattle.gq_graph.specs.Defaults.{settled}
use Rattle.gq_schema.proofs.attributes.add_settled.Given as goal

abbrev pub invariant-loop-attribute : goal.invariant-loop-attribute
invariant-loop-attribute l = l.into.items ≡ l.fn.into.items ++ map settled (take l.attribute-index l.attributes)
