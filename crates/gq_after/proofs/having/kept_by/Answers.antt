use Rattle.std.proofs.Common.{◌<◌, length, refl, arith}
use Rattle.gq_rules_calendar.specs.Gregorian.{gregorian}
use Rattle.gq_plan_ir.specs.ExprView.{view}
use Rattle.gq_after.specs.Sights.{vertex_look}
use Rattle.gq_after.proofs.HavingLemmas.{hold_next}
use Rattle.gq_after.proofs.having.kept_by.Goals as goal

pub loop-vertex-preserved : goal.loop-vertex-preserved
loop-vertex-preserved c =
    let n : c.loop-vertex.vertex-index < length c.args.vertices.now = omega arith in
    hold_next (vertex_look gregorian c.args.over.now c.args.accums.now c.args.end.now) (view c.args.expr.now) c.args.vertices.now c.loop-vertex.vertex-index _ c.loop-vertex.kept c.keep.new.kept c.in-Ok.holds c.loop-vertex.invariant n refl c.in-Ok.ensures c.in-Ok-keep.ensures
