use Rattle.std.proofs.Common.{◌<◌, length, map, refl, subst, sym, arith}
use Rattle.gq_rules_meaning.specs.Answers.{each}
use Rattle.gq_rules_meaning.specs.Tails as plain
use Rattle.gq_rules_calendar.specs.Gregorian.{gregorian}
use Rattle.gq_eval_context.specs.Answered.{EndsAs}
use Rattle.gq_after.specs.Ranks.{order_of, ranked}
use Rattle.gq_after.specs.Sights.{vertex_look}
use Rattle.gq_after.proofs.KeyLemmas.{row_stops, row_next}
use Rattle.gq_after.proofs.keys.rows_of.Goals as goal

pub returns-in-Err : goal.returns-in-Err
returns-in-Err c =
    let n : c.loop-vertex.vertex-index < length c.args.vertices.now = omega arith in
    subst (EndsAs (each (plain.ranked (vertex_look gregorian c.args.over.now c.args.accums.now c.args.end.now) (order_of c.args.order.now)) c.args.vertices.now)) (sym c.fault_at.ensures)
    (row_stops (vertex_look gregorian c.args.over.now c.args.accums.now c.args.end.now) c.args.order.now c.args.vertices.now c.loop-vertex.vertex-index _ (map ranked c.loop-vertex.rows) c.in-Err.halt c.loop-vertex.invariant n refl c.in-Err.ensures)

pub loop-vertex-preserved : goal.loop-vertex-preserved
loop-vertex-preserved c =
    let n : c.loop-vertex.vertex-index < length c.args.vertices.now = omega arith in
    row_next (vertex_look gregorian c.args.over.now c.args.accums.now c.args.end.now) c.args.order.now c.args.vertices.now c.loop-vertex.vertex-index _ c.loop-vertex.rows c.push.new.self c.in-Ok.keys c.loop-vertex.invariant n refl c.in-Ok.ensures c.in-Ok-push.ensures.ok
