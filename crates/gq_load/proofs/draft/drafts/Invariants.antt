use Rattle.std.proofs.Common.{◌≡◌, length}
use Rattle.gq_load.proofs.draft.drafts.Given as goal

abbrev pub invariant-loop : goal.invariant-loop
invariant-loop l = length l.drafts.items ≡ l.counter
