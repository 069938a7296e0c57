use Rattle.std.proofs.Common.{rules, ◌∙◌}
use Rattle.gq_exec_vars.proofs.FieldLemmas.{name_refused, type_refused, written_next}
use Rattle.gq_exec_vars.proofs.fields.tuple_type.Goals as goal

pub loop-field-preserved : goal.loop-field-preserved
loop-field-preserved c =
    written_next c.args.own.now c.args.fields.now c.loop-field.field-index c.field-item.result c.in-Some.base c.loop-field.names c.as_slice.result.now c.push.new.self c.loop-field.types c.push-in-Some.new.self c.as_str.result.now c.in_ok-of-in-Some.field-0
    c.loop-field-test.true c.field-item.is c.in-Some.ensures c.as_slice.ensures c.as_str.ensures (c.in_ok-of-in-Some.ensures ∙ c.as_str-in-Some.ensures) (c.is_free.ensures.free (search rules)) c.in_ok-push-in-Some.ensures.ok c.in_ok-push-in-Some-2.ensures.ok c.loop-field.invariant

pub returns-in-None-clause-halts : goal.returns-in-None-clause-halts
returns-in-None-clause-halts c =
    type_refused c.args.own.now c.args.fields.now c.loop-field.field-index c.field-item.result c.loop-field.names c.loop-field.types c.loop-field-test.true c.field-item.is c.in-None.ensures c.loop-field.invariant

pub returns-then-not-is_free-clause-halts : goal.returns-then-not-is_free-clause-halts
returns-then-not-is_free-clause-halts c =
    name_refused c.args.own.now c.args.fields.now c.loop-field.field-index c.field-item.result c.in-Some.base c.loop-field.names c.as_slice.result.now c.loop-field.types c.as_str.result.now
    c.loop-field-test.true c.field-item.is c.in-Some.ensures c.as_slice.ensures c.as_str.ensures (c.is_free.ensures.taken (search rules)) c.loop-field.invariant
