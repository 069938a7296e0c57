use Rattle.std.proofs.Common.{◌≡◌, map, take}
use Rattle.gq_ddl.specs.Attributes.{attribute_of}
use Rattle.gq_ddl.proofs.attributes.attributes_of.Given as goal

abbrev pub invariant-loop-tree : goal.invariant-loop-tree
invariant-loop-tree l = l.attributes ≡ map attribute_of (take l.tree-index l.trees)
