use Rattle.std.proofs.Common.{map, ap, sym, ◌∙◌}
use Rattle.gq_tree.specs.declared.kind.AccumTree.{AccumTree}
use Rattle.gq_rules_typing.specs.StatementViews.{view_definition}
use Rattle.gq_rules_meaning.specs.Messages.{name_at, slot_names}
use Rattle.gq_query_run.proofs.SlotLemmas.{among_accums, behind_accums}
use Rattle.gq_query_run.proofs.slot.slot_name.Goals as goal

pub returns-then-left-accums : goal.returns-then-left-accums
returns-then-left-accums c =
    c.as_str.ensures ∙ ap (λ (a : AccumTree). a.name) (sym c.index-accums-left.is)
    ∙ among_accums c.args.definitions.now c.loop-definition.definition-index c.definition-item.result c.accums_of-accums.result.now c.index-accums-left.result c.loop-definition.left
    (name_at (slot_names (map view_definition c.args.definitions.now)) c.args.slot) c.loop-definition-test.true c.definition-item.is c.accums_of-accums.ensures
    c.if-left-accums.true c.index-accums-left.is c.loop-definition.invariant

pub loop-definition-preserved : goal.loop-definition-preserved
loop-definition-preserved c =
    behind_accums c.args.definitions.now c.loop-definition.definition-index c.definition-item.result c.accums_of-accums.result.now c.loop-definition.left
    (name_at (slot_names (map view_definition c.args.definitions.now)) c.args.slot) c.loop-definition-test.true c.definition-item.is c.accums_of-accums.ensures
    c.if-left-accums.false c.loop-definition.invariant
