use Rattle.std.proofs.Common.{take}
use Rattle.std.specs.List.{All}
use Rattle.gq_value.specs.AccumViews.{accum_of}
use Rattle.gq_value.specs.declared.kind.Kind.{Kind}
use Rattle.gq_rules_typing.specs.Statements.{Bytes}
use Rattle.gq_exec_contribute.specs.Prepared.{TakesInts}
use Rattle.gq_exec_contribute.proofs.takes.do_parts_take_ints.Given as goal

abbrev pub invariant-loop-part : goal.invariant-loop-part
invariant-loop-part l = All (λ (p : Bytes × Kind). TakesInts (accum_of p.1)) (take l.part-index l.parts)
