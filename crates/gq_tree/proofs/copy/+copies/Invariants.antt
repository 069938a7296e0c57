-- In each loop the copies are those of the items before.
use Rattle.std.proofs.Common.{◌≡◌, take}
use Rattle.gq_tree.proofs.copy.+copies.Given as goal

abbrev pub invariant-nodes-loop-tree : goal.invariant-nodes-loop-tree
invariant-nodes-loop-tree l = l.copies ≡ take l.tree-index l.nodes

abbrev pub invariant-parts-loop-behind : goal.invariant-parts-loop-behind
invariant-parts-loop-behind l = l.copies ≡ take l.behind-index l.parts

abbrev pub invariant-factors-loop-factor : goal.invariant-factors-loop-factor
invariant-factors-loop-factor l = l.copies ≡ take l.factor-index l.factors

abbrev pub invariant-terms-loop-term : goal.invariant-terms-loop-term
invariant-terms-loop-term l = l.copies ≡ take l.term-index l.terms
