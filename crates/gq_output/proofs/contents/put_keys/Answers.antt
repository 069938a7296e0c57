use Rattle.std.proofs.Common.{◌<◌, length, sym, ltb-true, arith}
use Rattle.gq_rules_calendar.specs.Gregorian.{gregorian}
use Rattle.gq_eval_context.specs.Looks.{world_over}
use Rattle.gq_output.specs.Printed.{key_fields}
use Rattle.gq_output.proofs.NamedLemmas.{key_next, row_fields}
use Rattle.gq_output.proofs.contents.put_keys.Goals as goal

pub loop-place-preserved : goal.loop-place-preserved
loop-place-preserved c =
    let n : c.loop-place.place < length c.args.keys.now = omega arith in
    key_next (world_over gregorian c.args.over.now) c.args.keys.now c.args.row.now _ c.loop-place.members _ c.loop-place.place _ c.in-Some.value.now c.loop-place.invariant n c.index-keys-place.is (ltb-true _ _ (sym c.in-Some.ensures.lookup.0)) c.in-Some.ensures.lookup.1 c.in_ok-put_value-in-Some.ensures

pub returns-in-None : goal.returns-in-None
returns-in-None c =
    row_fields (world_over gregorian c.args.over.now) (key_fields c.args.keys.now) c.args.row.now _ c.loop-place.members c.loop-place.place c.loop-place.invariant c.in-None.ensures.lookup.3
