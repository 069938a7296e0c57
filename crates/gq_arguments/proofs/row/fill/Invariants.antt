use Rattle.std.proofs.Common.{◌≡◌, map}
use Rattle.gq_value.specs.Views.{val}
use Rattle.gq_scope.specs.Held.{sorts_in}
use Rattle.gq_rules_typing.specs.StatementViews.{view_parameter}
use Rattle.gq_rules_meaning.specs.Arguments.{values_of}
use Rattle.gq_arguments.specs.Rows.{all_given}
use Rattle.gq_arguments.proofs.RowLemmas.{behind, from}
use Rattle.gq_arguments.proofs.row.fill.Given as goal

abbrev pub invariant-loop-place : goal.invariant-loop-place
invariant-loop-place l =
    values_of (sorts_in l.fn.types) l.fn.vertices (map view_parameter l.fn.parameters) (all_given (map view_parameter l.fn.parameters) l.fn.arguments)
    ≡ behind (map val l.row) (from (sorts_in l.fn.types) l.fn.vertices (map view_parameter l.fn.parameters) (all_given (map view_parameter l.fn.parameters) l.fn.arguments) l.place)
