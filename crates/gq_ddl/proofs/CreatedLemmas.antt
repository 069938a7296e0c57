-- A job with a new name, for an existing graph.
use Rattle.std.proofs.Common.{◌≡◌, ℕ, List, Some, false, cond, Err, ap, ◌∙◌}
use Rattle.gq_graph.specs.Catalog.{Schema, graph_of}
use Rattle.gq_tree.specs.declared.job.JobTree.{JobTree}
use Rattle.gq_diagnostics.specs.declared.refusal.Refusal.TheVariants as refusal
use Rattle.gq_ddl.specs.declared.named.NamedJob.{NamedJob}
use Rattle.gq_ddl.specs.Jobs.{has_job, job_for, job_created}

pub created_with : (schema : Schema) (jobs : List NamedJob) (tree : JobTree) (graph : ℕ) (name other : List ℕ)
    → name ≡ tree.name → false ≡ has_job jobs name → other ≡ tree.graph → Some graph ≡ graph_of schema other
    → job_for schema jobs tree (Some graph) ≡ job_created schema jobs tree
created_with schema jobs tree graph name other named new at is =
    ap (job_for schema jobs tree) (is ∙ ap (graph_of schema) at)
    ∙ ap (λ b. cond b (Err (refusal.NameTaken tree.name)) (job_for schema jobs tree (graph_of schema tree.graph)))
    (new ∙ ap (has_job jobs) named)
