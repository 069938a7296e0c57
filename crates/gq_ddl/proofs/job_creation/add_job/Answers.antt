use Rattle.std.proofs.Common.{refl, sym, subst}
use Rattle.gq_load_check.specs.Lines.{job_of}
use Rattle.gq_load_check.specs.Refusals.{job_refusal}
use Rattle.gq_ddl.specs.Fitting.{JobsFit}
use Rattle.gq_ddl.specs.FittingLaws.{jobs_and}
use Rattle.gq_ddl.specs.Jobs.{with_job}
use Rattle.gq_ddl.proofs.job_creation.add_job.Goals as goal

pub returns-in-Err-clause-created : goal.returns-in-Err-clause-created
returns-in-Err-clause-created c =
    c.statement_fault.ensures (job_refusal c.args.catalog.now c.args.graph c.args.tree.now)
    (with_job c.args.jobs.now c.args.tree.now.name (job_of c.args.catalog.now c.args.graph c.args.tree.now)) c.args.jobs.now c.args.jobs.now c.in-Err.ensures.judged refl

pub returns-in-Ok-push-clause-fit : goal.returns-in-Ok-push-clause-fit
returns-in-Ok-push-clause-fit c = λ fit.
    subst (JobsFit c.args.catalog.now) (sym c.in-Ok-push.ensures)
    (jobs_and c.args.catalog.now c.args.jobs.now (record { name = c.in-Ok-of.name; job = c.in-Ok.job }) fit c.in-Ok.ensures.fits)
