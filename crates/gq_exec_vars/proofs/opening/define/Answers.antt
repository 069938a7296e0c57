use Rattle.std.proofs.Common.{length, refl}
use Rattle.gq_rules_calendar.specs.Gregorian.{gregorian}
use Rattle.gq_exec_vars.proofs.NumberLemmas.{accums_next, no_slot, no_tuple, on_ok, slots_count, tuple_counts, tuple_next}
use Rattle.gq_exec_vars.proofs.OpenLemmas.{tuple_led, accums_defined}
use Rattle.gq_exec_vars.proofs.opening.define.Goals as goal

pub returns-in-Tuple-clause-leads : goal.returns-in-Tuple-clause-leads
returns-in-Tuple-clause-leads c =
    tuple_led gregorian c.args.graph c.args.plan.now c.args.definition.now c.in-Tuple.fields c.in-Tuple.number c.args.opened.now _ c.add_tuple.result c.in-Tuple.is c.add_tuple.ensures.adds c.add_tuple.ensures.halts refl

pub returns-in-Accums-clause-leads : goal.returns-in-Accums-clause-leads
returns-in-Accums-clause-leads c =
    accums_defined gregorian c.args.graph c.args.plan.now c.args.definition.now c.in-Accums.kind c.in-Accums.trees c.args.opened.now _ c.accums.result c.in-Accums.is refl c.accums.ensures.leads

pub add_tuple-requires : goal.add_tuple-requires
add_tuple-requires c = tuple_next (length c.args.opened.now.tuples) (length c.args.opened.now.live.frame.accums.slots.declared) c.args.definition.now c.in-Tuple.fields c.in-Tuple.number c.in-Tuple.is c.requires.next

pub accums-requires-clause-next : goal.accums-requires-clause-next
accums-requires-clause-next c = accums_next (length c.args.opened.now.tuples) (length c.args.opened.now.live.frame.accums.slots.declared) c.args.definition.now c.in-Accums.kind c.in-Accums.trees c.in-Accums.is c.requires.next

pub returns-in-Tuple-clause-tuples : goal.returns-in-Tuple-clause-tuples
returns-in-Tuple-clause-tuples c = tuple_counts c.args.definition.now c.in-Tuple.fields c.in-Tuple.number c.in-Tuple.is _ c.args.opened.now.tuples _ c.add_tuple.result c.add_tuple.ensures.adds

pub returns-in-Tuple-clause-slots : goal.returns-in-Tuple-clause-slots
returns-in-Tuple-clause-slots c = on_ok c.add_tuple.result (no_slot c.args.definition.now c.in-Tuple.fields c.in-Tuple.number c.in-Tuple.is (length c.args.opened.now.live.frame.accums.slots.declared))

pub returns-in-Accums-clause-tuples : goal.returns-in-Accums-clause-tuples
returns-in-Accums-clause-tuples c = on_ok c.accums.result (no_tuple c.args.definition.now c.in-Accums.kind c.in-Accums.trees c.in-Accums.is (length c.args.opened.now.tuples))

pub returns-in-Accums-clause-slots : goal.returns-in-Accums-clause-slots
returns-in-Accums-clause-slots c = slots_count c.args.definition.now c.in-Accums.kind c.in-Accums.trees c.in-Accums.is (length c.args.opened.now.live.frame.accums.slots.declared) _ c.accums.result c.accums.ensures.count
