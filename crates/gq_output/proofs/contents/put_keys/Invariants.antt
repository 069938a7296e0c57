use Rattle.std.proofs.Common.{◌++◌, map}
use Rattle.gq_value.specs.Views.{val}
use Rattle.gq_rules_calendar.specs.Gregorian.{gregorian}
use Rattle.gq_eval_context.specs.Looks.{world_over}
use Rattle.gq_output.specs.Printed.{key_fields, named_shown}
use Rattle.gq_output.proofs.NamedLemmas.{NamedFrom}
use Rattle.gq_output.proofs.contents.put_keys.Given as goal

-- the keys so far, followed by the rest
abbrev pub invariant-loop-place : goal.invariant-loop-place
invariant-loop-place l =
    NamedFrom (world_over gregorian l.over) (key_fields l.keys) (map val l.row) (l.fn.members ++ named_shown (world_over gregorian l.over) (key_fields l.keys) (map val l.row)) l.members l.place
