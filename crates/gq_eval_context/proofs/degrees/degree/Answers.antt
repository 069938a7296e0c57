use Rattle.std.proofs.Common.{◌+◌, refl, get_or, arith}
use Rattle.gq_eval_context.proofs.DegreeLemmas.{counted_more}
use Rattle.gq_eval_context.proofs.degrees.degree.Goals as goal

pub loop-kind-preserved : goal.loop-kind-preserved
loop-kind-preserved c =
    counted_more c.args.graph c.args.own.now c.args.vertex c.loop-kind.kind-index c.loop-kind.total (get_or c.args.own.now c.loop-kind.kind-index 0) c.walked-total.result (c.loop-kind.total + c.walked-total.result)
    c.loop-kind.invariant (omega arith) refl (c.walked-total.ensures.degree c.args.own.now) c.walked-total.ensures.few refl
