use Rattle.gq_load_run.specs.JobLaws.{job_determined}
use Rattle.gq_load_run.proofs.laws.jobs_do_one_thing.Goals as goal

pub returns : goal.returns
returns c = job_determined
