use Rattle.std.proofs.Common.{sym}
use Rattle.gq_ddl.specs.FittingLaws.{found_fits}
use Rattle.gq_ddl.proofs.named.Jobs.find.Goals as goal

pub returns-in-Some-clause-fits : goal.returns-in-Some-clause-fits
returns-in-Some-clause-fits c = λ schema fit.
    found_fits schema c.args.self.now c.args.name.now c.in-Some.entry.now fit (sym c.in-Some.ensures)
