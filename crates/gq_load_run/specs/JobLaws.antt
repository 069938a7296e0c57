-- JobLaws: if the listing of the files is given, a run of a job has exactly one effect.
use Rattle.std.proofs.Common.{◌≡◌, ℕ, List, [], length, Option, Some, None, sym, ◌∙◌}
use Rattle.gq_io.specs.Listing.{Listing}
use Rattle.gq_graph.specs.Catalog.{Schema}
use Rattle.gq_tree.specs.declared.job.RunJobTree.{RunJobTree}
use Rattle.gq_index.specs.declared.store.Store.{Store}
use Rattle.gq_load_check.specs.declared.job.Job.{Job}
use Rattle.gq_load_check.specs.Paths.{Given, undefined_name}
use Rattle.gq_io.specs.Known.{Told}
use Rattle.gq_diagnostics.specs.Effects.{Effect}
use Rattle.gq_load_run.specs.LoadLaws.{loads_determined}
use Rattle.gq_ddl.specs.declared.named.NamedJob.{NamedJob}
use Rattle.gq_ddl.specs.Jobs.{job_named}
use Rattle.gq_load_run.specs.Loadings.{place_of, loaded_by}
use Rattle.gq_load_run.specs.JobRuns.{UsingDoes, FoundDoes, JobDoes}

module _ (pairs : Listing) (schema : Schema) (store : Store) (e f : Effect Store) where
  using_determined : (job : Job) (given : List Given) (o : Option (List ℕ)) → UsingDoes (Told pairs) schema job given store o e → UsingDoes (Told pairs) schema job given store o f → e ≡ f
  using_determined job given (Some name) one other = one ∙ sym other
  using_determined job given None one other = loads_determined (place_of job given) (loaded_by schema job) pairs store 0 (length job.lines) [] e f one other

  found_determined : (tree : RunJobTree) (o : Option Job) → FoundDoes (Told pairs) schema store tree o e → FoundDoes (Told pairs) schema store tree o f → e ≡ f
  found_determined tree None one other = one ∙ sym other
  found_determined tree (Some job) one other = using_determined job tree.paths (undefined_name job.files tree.paths) one other

pub job_determined : (pairs : Listing) (schema : Schema) (jobs : List NamedJob) (store : Store) (tree : RunJobTree) (e f : Effect Store)
    → JobDoes (Told pairs) schema jobs store tree e → JobDoes (Told pairs) schema jobs store tree f → e ≡ f
job_determined pairs schema jobs store tree e f one other = found_determined pairs schema store e f tree (job_named jobs tree.name) one other
