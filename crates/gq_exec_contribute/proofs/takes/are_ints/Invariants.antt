use Rattle.std.proofs.Common.{◌≡◌, take}
use Rattle.std.specs.List.{All}
use Rattle.gq_value.specs.Accums.{INT}
use Rattle.gq_value.specs.AccumViews.{base_of}
use Rattle.gq_value.specs.declared.kind.BaseType.{BaseType}
use Rattle.gq_exec_contribute.proofs.takes.are_ints.Given as goal

abbrev pub invariant-loop-base : goal.invariant-loop-base
invariant-loop-base l = All (λ (b : BaseType). base_of b ≡ INT) (take l.base-index l.types)
