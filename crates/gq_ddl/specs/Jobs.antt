-- Jobs: the named loading jobs of a session, and the effect of CREATE LOADING JOB on them, or why it is refused.
use Rattle.std.specs.Prelude.{ℕ, Bool, if◌then◌else◌, List, [], ◌∷◌, ◌++◌, find, Option, Some, None, option_map, option_and_then, bytes_eq, Result, Ok, Err}
use Rattle.std.specs.List.{list_any}
use Rattle.gq_graph.specs.Catalog.{Schema, graph_of}
use Rattle.gq_tree.specs.declared.job.JobTree.{JobTree}
use Rattle.gq_diagnostics.specs.declared.refusal.Refusal.{Refusal}
use Rattle.gq_diagnostics.specs.declared.refusal.Refusal.TheVariants as refusal
use Rattle.gq_load_check.specs.declared.job.Job.{Job}
use Rattle.gq_load_check.specs.declared.fault.JobFault.{JobFault}
use Rattle.gq_load_check.specs.declared.fault.JobFault.TheVariants as fault
use Rattle.gq_load_check.specs.Lines.{job_of}
use Rattle.gq_load_check.specs.Refusals.{job_refusal}
use Rattle.gq_ddl.specs.declared.named.NamedJob.{NamedJob}

-- ---- names

abbrev pub is_named : List ℕ → NamedJob → Bool
is_named name entry = bytes_eq entry.name name

-- whether a job of the name exists
abbrev pub has_job : List NamedJob → List ℕ → Bool
has_job jobs name = list_any (is_named name) jobs

abbrev pub entry_of : List NamedJob → List ℕ → Option NamedJob
entry_of jobs name = find (is_named name) jobs

-- the job of the name
abbrev pub job_named : List NamedJob → List ℕ → Option Job
job_named jobs name = option_map (λ (entry : NamedJob). entry.job) (entry_of jobs name)

-- ---- CREATE LOADING JOB

-- the refusal of a statement, given that of its job; OutOfMemory isn't a refusal
abbrev pub refusal_of : JobFault → Option Refusal
refusal_of (fault.NoSuchType x) = Some (refusal.NoSuchType x)
refusal_of (fault.WrongCount x) = Some (refusal.WrongCount x)
refusal_of (fault.IdMissing x) = Some refusal.NotAllowed
refusal_of (fault.UnknownFile x) = Some (refusal.UnknownName x)
refusal_of fault.BadOption = Some refusal.BadOption
refusal_of fault.OutOfMemory = None

-- the refusal if there is one, or else the jobs
abbrev pub refused_or : Option Refusal → List NamedJob → Result (List NamedJob) Refusal
refused_or None jobs = Ok jobs
refused_or (Some due) jobs = Err due

-- the jobs, unless a rule fails
abbrev pub unless_refused : Option JobFault → List NamedJob → Result (List NamedJob) Refusal
unless_refused due jobs = refused_or (option_and_then refusal_of due) jobs

-- the jobs with one more
abbrev pub with_job : List NamedJob → List ℕ → Job → List NamedJob
with_job jobs name job = jobs ++ record { name = name; job = job } ∷ []

-- the job of a tree for its graph, given the graph's number if the graph exists
abbrev pub job_for : Schema → List NamedJob → JobTree → Option ℕ → Result (List NamedJob) Refusal
job_for schema jobs tree None = Err (refusal.UnknownName tree.graph)
job_for schema jobs tree (Some graph) = unless_refused (job_refusal schema graph tree) (with_job jobs tree.name (job_of schema graph tree))

-- CREATE LOADING JOB: its name is new, its graph exists, and no rule on its lines fails
abbrev pub job_created : Schema → List NamedJob → JobTree → Result (List NamedJob) Refusal
job_created schema jobs tree =
    if has_job jobs tree.name then Err (refusal.NameTaken tree.name) else job_for schema jobs tree (graph_of schema tree.graph)
