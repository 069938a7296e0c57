use Rattle.std.proofs.Common.{refl, arith}
use Rattle.gq_rules_calendar.specs.Gregorian.{gregorian}
use Rattle.gq_workers.proofs.RunLemmas.{run_faults, run_done}
use Rattle.gq_workers.proofs.block.in_chunks.Goals as goal

pub returns-in-Some : goal.returns-in-Some
returns-in-Some g c = run_faults gregorian c.args.over.now c.args.work.now c.requires.work c.loop-run.run c.next_chunk.new.run (c.in-Some.at, c.in-Some.fault) c.in-Some.at c.in-Some.fault refl refl (rw c.in-Some.is at c.in_ok-at.ensures)

pub returns : goal.returns
returns g c = run_done gregorian c.args.over.now c.args.work.now c.requires.work c.loop-run.run (let n = c.count.ensures in let t = c.loop-run-test.false in omega (arith, n, t)) c.loop-run.invariant
