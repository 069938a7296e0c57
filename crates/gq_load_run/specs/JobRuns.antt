-- JobRuns: what RUN LOADING JOB means, and what it leaves if it doesn't run to its end.
use Rattle.std.specs.Prelude.{◌≡◌, ℕ, List, [], length, Option, Some, None}
use Rattle.gq_graph.specs.Catalog.{Schema}
use Rattle.gq_tree.specs.declared.job.RunJobTree.{RunJobTree}
use Rattle.gq_diagnostics.specs.declared.refusal.Refusal.TheVariants as refusal
use Rattle.gq_diagnostics.specs.declared.refusal.StatementFault.{StatementFault}
use Rattle.gq_diagnostics.specs.Messages.{message_of}
use Rattle.gq_index.specs.declared.store.Store.{Store}
use Rattle.gq_load_check.specs.declared.job.Job.{Job}
use Rattle.gq_load_check.specs.Paths.{Given, undefined_name}
use Rattle.gq_io.specs.Known.{Known}
use Rattle.gq_diagnostics.specs.Effects.{Effect, Refused}
use Rattle.gq_load_run.specs.Loads.{LoadsMean}
use Rattle.gq_load_run.specs.Remains.{Remains}
use Rattle.gq_ddl.specs.declared.named.NamedJob.{NamedJob}
use Rattle.gq_ddl.specs.Jobs.{job_named}
use Rattle.gq_load_run.specs.Loadings.{place_of, loaded_by, Leaves}

-- ---- meaning

-- its LOADs run one after another, each after the report of the one before it
abbrev pub LoadsDo : Known → Schema → Job → List Given → Store → Effect Store → Type 0
LoadsDo known schema job given store effect = LoadsMean (place_of job given) (loaded_by schema job) known store 0 (length job.lines) [] effect

-- unless the run supplies a path for a name although the job has no such file
abbrev pub UsingDoes : Known → Schema → Job → List Given → Store → Option (List ℕ) → Effect Store → Type 0
UsingDoes known schema job given store (Some name) effect = effect ≡ Refused (message_of (refusal.UnknownName name))
UsingDoes known schema job given store None effect = LoadsDo known schema job given store effect

-- the job that was found, or None
abbrev pub FoundDoes : Known → Schema → Store → RunJobTree → Option Job → Effect Store → Type 0
FoundDoes known schema store tree None effect = effect ≡ Refused (message_of (refusal.UnknownName tree.name))
FoundDoes known schema store tree (Some job) effect =
    UsingDoes known schema job tree.paths store (undefined_name job.files tree.paths) effect

-- RUN LOADING JOB
abbrev pub JobDoes : Known → Schema → List NamedJob → Store → RunJobTree → Effect Store → Type 0
JobDoes known schema jobs store tree effect = FoundDoes known schema store tree (job_named jobs tree.name) effect

-- ---- what remains

-- the store has the upserts of the LOADs that ended, and what the next one leaves by this fault
abbrev pub LoadsLeave : Known → Schema → Job → List Given → Store → StatementFault → Store → Type 0
LoadsLeave known schema job given store fault later = Remains (place_of job given) (loaded_by schema job) (Leaves schema job) known store (length job.lines) fault later

-- or it is unchanged, if no LOAD began
abbrev pub UsingLeaves : Known → Schema → Job → List Given → Store → Option (List ℕ) → StatementFault → Store → Type 0
UsingLeaves known schema job given store (Some name) fault later = later ≡ store
UsingLeaves known schema job given store None fault later = LoadsLeave known schema job given store fault later

abbrev pub FoundLeaves : Known → Schema → Store → RunJobTree → Option Job → StatementFault → Store → Type 0
FoundLeaves known schema store tree None fault later = later ≡ store
FoundLeaves known schema store tree (Some job) fault later =
    UsingLeaves known schema job tree.paths store (undefined_name job.files tree.paths) fault later

-- RUN LOADING JOB leaves this store if it ends by this fault
abbrev pub JobLeaves : Known → Schema → List NamedJob → Store → RunJobTree → StatementFault → Store → Type 0
JobLeaves known schema jobs store tree fault later = FoundLeaves known schema store tree (job_named jobs tree.name) fault later
