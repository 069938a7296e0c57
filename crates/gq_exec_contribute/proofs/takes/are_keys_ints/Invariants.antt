use Rattle.std.proofs.Common.{◌≡◌, take}
use Rattle.std.specs.List.{All}
use Rattle.gq_value.specs.Accums.{INT}
use Rattle.gq_value.specs.AccumViews.{base_of}
use Rattle.gq_value.specs.declared.kind.BaseType.{BaseType}
use Rattle.gq_rules_typing.specs.Statements.{Bytes}
use Rattle.gq_exec_contribute.proofs.takes.are_keys_ints.Given as goal

abbrev pub invariant-loop-key : goal.invariant-loop-key
invariant-loop-key l = All (λ (k : Bytes × BaseType). base_of k.1 ≡ INT) (take l.key-index l.keys)
