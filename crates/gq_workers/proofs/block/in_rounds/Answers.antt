use Rattle.std.proofs.Common.{refl}
use Rattle.gq_rules_calendar.specs.Gregorian.{gregorian}
use Rattle.gq_workers.proofs.RunLemmas.{run_faults}
use Rattle.gq_workers.proofs.block.in_rounds.Goals as goal

pub returns-in-Some : goal.returns-in-Some
returns-in-Some g c = run_faults gregorian c.args.over.now c.args.work.now c.requires.work c.args.run c.try_rounds.new.run (c.in-Some.at, c.in-Some.fault) c.in-Some.at c.in-Some.fault refl refl (rw c.in-Some.is at c.in_ok-at.ensures)

pub in_chunks-requires-clause-run : goal.in_chunks-requires-clause-run
in_chunks-requires-clause-run g c κs within = rw c.in-None.is at c.in_ok-at.ensures
