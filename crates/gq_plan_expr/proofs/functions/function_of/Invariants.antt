use Rattle.std.proofs.Common.{◌≡◌, drop}
use Rattle.gq_plan_expr.specs.Found.{tuple_from}
use Rattle.gq_plan_expr.proofs.functions.function_of.Given as goal

abbrev pub invariant-loop-number : goal.invariant-loop-number
invariant-loop-number l = tuple_from l.name 0 l.tuples ≡ tuple_from l.name l.number (drop l.number l.tuples)
