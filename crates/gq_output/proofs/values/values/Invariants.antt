use Rattle.std.proofs.Common.{◌≡◌, ◌++◌, drop, map}
use Rattle.gq_value.specs.Views.{val}
use Rattle.gq_rules_calendar.specs.Gregorian.{gregorian}
use Rattle.gq_eval_operand.specs.Meant.{sort_is}
use Rattle.gq_eval_context.specs.Looks.{world_over}
use Rattle.gq_output.specs.Printed.{value_shown}
use Rattle.gq_output.proofs.values.values.Given as goal

-- the values so far, followed by the rest
abbrev pub invariant-loop-value : goal.invariant-loop-value
invariant-loop-value l =
    l.outs ++ map (λ v. value_shown (world_over gregorian l.over) (sort_is l.sort) (val v)) (drop l.value-index l.row) ≡ map (λ v. value_shown (world_over gregorian l.over) (sort_is l.sort) (val v)) l.row
