-- Fitting: when named jobs are valid for a catalog.
use Rattle.std.specs.Prelude.{List, All}
use Rattle.gq_graph.specs.Catalog.{Schema}
use Rattle.gq_load_check.specs.Fits.{LineFits}
use Rattle.gq_ddl.specs.declared.named.NamedJob.{NamedJob}

-- each LOAD of each job is valid for the catalog
abbrev pub JobsFit : Schema → List NamedJob → Type 0
JobsFit schema jobs = All (λ (entry : NamedJob). All (LineFits schema) entry.job.lines) jobs
