use Rattle.gq_load_run.proofs.RunLemmas.{leaves_line}
use Rattle.gq_load_run.proofs.line.load_numbered.Goals as goal

pub returns-clause-left : goal.returns-clause-left
returns-clause-left c =
    leaves_line c.args.catalog.now c.args.job.now c.args.store.now c.load_line.new.store c.args.number c.args.bytes.now c.at.result.now c.at.ensures
    c.load_line.result c.load_line.ensures.left
