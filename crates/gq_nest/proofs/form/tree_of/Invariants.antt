use Rattle.std.proofs.Common.{◌≡◌, ◌++◌, length}
use Rattle.gq_nest.proofs.form.tree_of.Given as goal

-- the last entries are in the tree
abbrev pub invariant-loop-key : goal.invariant-loop-key
invariant-loop-key g l = l.entries.items ++ l.tree.entries ≡ l.initial.entries.items

abbrev pub decreases-loop-key : goal.decreases-loop-key
decreases-loop-key g l = length l.entries.items
