use Rattle.std.proofs.Common.{rules}
use Rattle.gq_workers.proofs.RoundLemmas.{fits_still, marks_next}
use Rattle.gq_workers.proofs.joining.mark_parts.Goals as goal

pub loop-part-preserved : goal.loop-part-preserved
loop-part-preserved c = marks_next c.args.parts.now c.loop-part.part-index c.part-item.result c.in-Ok.part c.args.found.now c.loop-part.found c.mark_part.new.found c.loop-part-test.true (search rules) c.in-Ok.is c.loop-part.invariant c.mark_part.ensures

pub mark_part-requires : goal.mark_part-requires
mark_part-requires c = fits_still c.args.parts.now c.loop-part.part-index c.part-item.result c.in-Ok.part c.args.found.now c.loop-part.found c.loop-part-test.true (search rules) c.in-Ok.is c.requires c.loop-part.invariant
