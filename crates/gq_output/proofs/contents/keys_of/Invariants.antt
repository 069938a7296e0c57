use Rattle.std.proofs.Common.{◌≡◌, ◌++◌, map}
use Rattle.gq_value.specs.Views.{val}
use Rattle.gq_rules_calendar.specs.Gregorian.{gregorian}
use Rattle.gq_eval_operand.specs.Meant.{sort_is}
use Rattle.gq_eval_context.specs.Looks.{world_over}
use Rattle.gq_output.specs.Printed.{value_shown}
use Rattle.gq_output.proofs.contents.keys_of.Given as goal

-- the elements so far, followed by those of the keys left
abbrev pub invariant-loop-key : goal.invariant-loop-key
invariant-loop-key l =
    l.outs ++ map (λ v. value_shown (world_over gregorian l.over) (sort_is l.sort) (val v)) l.key-iterator ≡ map (λ v. value_shown (world_over gregorian l.over) (sort_is l.sort) (val v)) l.keys.keys
