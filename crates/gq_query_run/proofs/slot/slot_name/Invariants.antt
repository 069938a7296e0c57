use Rattle.std.proofs.Common.{◌≡◌, map}
use Rattle.gq_rules_typing.specs.StatementViews.{view_definition}
use Rattle.gq_rules_meaning.specs.Messages.{name_at, slot_names}
use Rattle.gq_query_run.proofs.SlotLemmas.{names_from}
use Rattle.gq_query_run.proofs.slot.slot_name.Given as goal

abbrev pub invariant-loop-definition : goal.invariant-loop-definition
invariant-loop-definition l = name_at (slot_names (map view_definition l.fn.definitions)) l.fn.slot ≡ name_at (names_from l.fn.definitions l.definition-index) l.left
