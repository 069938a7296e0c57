use Rattle.std.proofs.Common.{◌≡◌, take}
use Rattle.gq_scope.proofs.typed.keep_bare.Given as goal

abbrev pub invariant-loop-base : goal.invariant-loop-base
invariant-loop-base l = l.kept ≡ take l.base-index l.types
