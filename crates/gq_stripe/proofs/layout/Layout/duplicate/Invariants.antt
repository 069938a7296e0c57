use Rattle.std.proofs.Common.{◌≡◌, take}
use Rattle.gq_stripe.proofs.layout.Layout.duplicate.Given as goal

-- the runs so far are copied
abbrev pub invariant-loop-run : goal.invariant-loop-run
invariant-loop-run l = l.runs ≡ take l.run-index l.run-items
