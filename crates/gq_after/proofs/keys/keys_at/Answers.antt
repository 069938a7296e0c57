use Rattle.std.proofs.Common.{◌<◌, length, map, refl, arith}
use Rattle.gq_value.specs.Views.{val}
use Rattle.gq_rules_calendar.specs.Gregorian.{gregorian}
use Rattle.gq_after.specs.Sights.{vertex_look}
use Rattle.gq_after.proofs.KeyLemmas.{key_next, key_stops}
use Rattle.gq_after.proofs.keys.keys_at.Goals as goal

pub returns-in-Err : goal.returns-in-Err
returns-in-Err c =
    let n : c.loop-key.key-index < length c.args.order.now = omega arith in
    key_stops (vertex_look gregorian c.args.over.now c.args.accums.now c.args.end.now c.args.vertex) c.args.order.now c.loop-key.key-index c.key-item.result (map val c.loop-key.row) c.in-Err.halt c.loop-key.invariant n
    c.key-item.is c.in-Err.ensures

pub loop-key-preserved : goal.loop-key-preserved
loop-key-preserved c =
    let n : c.loop-key.key-index < length c.args.order.now = omega arith in
    key_next (vertex_look gregorian c.args.over.now c.args.accums.now c.args.end.now c.args.vertex) c.args.order.now c.loop-key.key-index c.key-item.result c.loop-key.row c.push.new.self c.in-Ok.value _ c.loop-key.invariant n
    c.key-item.is c.in-Ok.ensures refl c.in_ok-push-in-Ok.ensures.ok
