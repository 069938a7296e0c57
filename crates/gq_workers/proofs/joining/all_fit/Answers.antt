use Rattle.std.proofs.Common.{rules}
use Rattle.gq_workers.proofs.RoundLemmas.{fit_next}
use Rattle.gq_workers.proofs.joining.all_fit.Goals as goal

pub loop-part-preserved : goal.loop-part-preserved
loop-part-preserved c = fit_next c.args.parts.now c.loop-part.part-index c.part-item.result c.args.found.now c.loop-part-test.true (search rules) (c.fits.ensures (search rules)) c.loop-part.invariant
