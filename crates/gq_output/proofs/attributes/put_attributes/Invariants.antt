use Rattle.std.proofs.Common.{◌++◌, map}
use Rattle.gq_graph.specs.Vertices.{vertex_at}
use Rattle.gq_value.specs.Views.{val}
use Rattle.gq_rules_typing.specs.Sorts.{attribute_fields}
use Rattle.gq_rules_calendar.specs.Gregorian.{gregorian}
use Rattle.gq_eval_context.specs.Looks.{world_over}
use Rattle.gq_output.specs.Printed.{named_shown}
use Rattle.gq_output.proofs.NamedLemmas.{NamedFrom}
use Rattle.gq_output.proofs.attributes.put_attributes.Given as goal

-- the attributes so far, followed by the rest
abbrev pub invariant-loop-place : goal.invariant-loop-place
invariant-loop-place l =
    let values = map val (vertex_at l.vertices l.vertex).attributes in
    NamedFrom (world_over gregorian l.over) (attribute_fields l.attributes) values (l.fn.members ++ named_shown (world_over gregorian l.over) (attribute_fields l.attributes) values) l.members l.place
