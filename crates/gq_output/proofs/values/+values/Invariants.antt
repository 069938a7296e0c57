use Rattle.std.proofs.Common.{◌+◌, ◌*◌, map}
use Rattle.gq_value.specs.Views.{val}
use Rattle.gq_value.specs.declared.value.Value.{size-Value}
use Rattle.gq_rules_calendar.specs.Gregorian.{gregorian}
use Rattle.gq_eval_attributes.specs.Tuples.{fields_in}
use Rattle.gq_eval_context.specs.Looks.{world_over}
use Rattle.gq_output.specs.Printed.{named_shown}
use Rattle.gq_output.proofs.NamedLemmas.{NamedFrom}
use Rattle.gq_output.proofs.values.+values.Given as goal

abbrev pub decreases-out_value : goal.decreases-out_value
decreases-out_value l = 8 * size-Value l.value.now

abbrev pub decreases-put_value : goal.decreases-put_value
decreases-put_value l = 8 * size-Value l.value.now + 1

abbrev pub decreases-fields : goal.decreases-fields
decreases-fields l = 8 * goal.size-fields l + 2

abbrev pub decreases-tuple : goal.decreases-tuple
decreases-tuple l = 8 * goal.size-tuple l + 3

-- the fields so far, followed by the rest
abbrev pub invariant-fields-loop-place : goal.invariant-fields-loop-place
invariant-fields-loop-place l =
    NamedFrom (world_over gregorian l.over) (fields_in l.of) (map val l.row) (named_shown (world_over gregorian l.over) (fields_in l.of) (map val l.row)) l.members l.place
