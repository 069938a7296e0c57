use Rattle.std.proofs.Common.{◌≡◌, ◌++◌, take}
use Rattle.gq_core.proofs.worker.push_all.Given as goal

-- the items so far are appended
abbrev pub invariant-loop-item : goal.invariant-loop-item
invariant-loop-item g l = l.list ≡ l.fn.list ++ take l.item-index l.items
