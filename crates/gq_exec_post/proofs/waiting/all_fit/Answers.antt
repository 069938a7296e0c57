use Rattle.std.proofs.Common.{FitsSigned, get_or, pos, rules}
use Rattle.std.specs.Int.{w64}
use Rattle.gq_exec_post.proofs.TakenLemmas.{fit_next}
use Rattle.gq_exec_post.proofs.waiting.all_fit.Goals as goal

pub loop-x-preserved : goal.loop-x-preserved
loop-x-preserved c =
    let fits : FitsSigned w64 (get_or c.args.ints.now c.loop-x.x-index (pos 0)) = search rules in
    fit_next c.args.ints.now c.loop-x.x-index (pos 0) c.loop-x-test.true fits c.loop-x.invariant
