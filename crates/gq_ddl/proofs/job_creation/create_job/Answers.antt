use Rattle.std.proofs.Common.{subst}
use Rattle.gq_diagnostics.specs.Answers.{Answers}
use Rattle.gq_ddl.proofs.CreatedLemmas.{created_with}
use Rattle.gq_ddl.proofs.job_creation.create_job.Goals as goal

pub returns-in-Some-clause-created : goal.returns-in-Some-clause-created
returns-in-Some-clause-created c =
    subst (λ meant. Answers meant c.args.jobs.now c.add_job.new.jobs c.add_job.result)
    (created_with c.args.catalog.now c.args.jobs.now c.args.tree.now c.in-Some.graph _ _ c.as_str.ensures c.if-has.ensures c.as_str-2.ensures c.in-Some.ensures)
    c.add_job.ensures.created
