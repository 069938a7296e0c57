use Rattle.std.proofs.Common.{arith}
use Rattle.gq_rules_calendar.specs.Gregorian.{gregorian}
use Rattle.gq_workers.proofs.RoundLemmas.{part_next}
use Rattle.gq_workers.proofs.workers.work_part.Goals as goal

pub loop-preserved : goal.loop-preserved
loop-preserved g c =
    let s = c.saturating_add-start.ensures in let f = c.ranges.first.fits in let m = c.min-end.ensures in
    part_next gregorian c.args.over.now c.args.work.now c.args.first c.args.last c.saturating_add-start.result c.min-end.result c.loop.lefts c.push.new.self c.in_ok-work_chunk.field-0 c.loop.found c.work_chunk.new.found
    (omega (arith, s, f)) (omega (arith, m)) c.in_ok-push.ensures.ok c.loop.invariant c.in_ok-work_chunk.ensures
