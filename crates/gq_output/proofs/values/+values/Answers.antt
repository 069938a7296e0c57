use Rattle.std.proofs.Common.{◌<◌, ◌≤◌, length, map, ap, arith}
use Rattle.gq_value.specs.Views.{val}
use Rattle.gq_rules_calendar.specs.Gregorian.{gregorian}
use Rattle.gq_eval_attributes.specs.Tuples.{fields_in}
use Rattle.gq_eval_operand.specs.Meant.{sort_is}
use Rattle.gq_eval_context.specs.Looks.{world_over}
use Rattle.gq_output.proofs.NamedLemmas.{tuple_next, row_fields, named_past}
use Rattle.gq_output.proofs.ValueLemmas.{tuple_told, untyped_shown}
use Rattle.gq_output.proofs.values.+values.Goals as goal

pub tuple-returns-in-Some : goal.tuple-returns-in-Some
tuple-returns-in-Some t c = tuple_told gregorian c.args.over.now (sort_is c.args.sort) _ _ _ c.args.row.now c.fields.result (ap sort_is c.in-Tuple.is) c.in-Some.ensures c.fields.ensures

pub tuple-returns-in-None : goal.tuple-returns-in-None
tuple-returns-in-None t c = untyped_shown gregorian c.args.over.now (sort_is c.args.sort) _ _ c.args.row.now c.new.result (ap sort_is c.in-Tuple.is) c.in-None.ensures c.new.ensures

pub fields-loop-place-preserved : goal.fields-loop-place-preserved
fields-loop-place-preserved t c =
    let n : c.loop-place.place < length c.args.row.now = omega arith in
    tuple_next (world_over gregorian c.args.over.now) (fields_in c.args.of.now) c.args.row.now _ c.loop-place.members _ c.loop-place.place _ _ _ c.loop-place.invariant c.in-Some.ensures n c.index-row-place.is c.in_ok-put_value-in-Some.ensures

pub fields-returns : goal.fields-returns
fields-returns t c =
    let n : length c.args.row.now ≤ c.loop-place.place = omega arith in
    row_fields (world_over gregorian c.args.over.now) (fields_in c.args.of.now) c.args.row.now _ c.loop-place.members c.loop-place.place c.loop-place.invariant n

pub fields-returns-in-None : goal.fields-returns-in-None
fields-returns-in-None t c =
    named_past (world_over gregorian c.args.over.now) (fields_in c.args.of.now) (map val c.args.row.now) _ c.loop-place.members c.loop-place.place c.loop-place.invariant c.in-None.ensures
