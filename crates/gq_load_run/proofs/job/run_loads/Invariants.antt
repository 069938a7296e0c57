use Rattle.std.proofs.Common.{◌≡◌, ◌≤◌, length}
use Rattle.gq_index.specs.Kept.{StoreGrown}
use Rattle.gq_load.specs.Keeping.{StoreFits}
use Rattle.gq_load_run.specs.Loadings.{loaded_by, place_of}
use Rattle.gq_load_run.specs.LoadLaws.{HasLoaded}
use Rattle.gq_load_run.proofs.job.run_loads.Given as goal

abbrev pub invariant-loop-number : goal.invariant-loop-number
invariant-loop-number g l =
    HasLoaded (place_of l.fn.job l.fn.given) (loaded_by l.fn.catalog l.fn.job) (g.F.Files.held l.fn.files) l.fn.store (length l.fn.job.lines) l.number l.store l.reports.items
    × (g.F.Files.held l.files ≡ g.F.Files.held l.fn.files)
    × (g.F.Files.faults l.fn.files ≤ g.F.Files.faults l.files)
    × (g.F.Files.absences l.fn.files ≤ g.F.Files.absences l.files)
    × StoreFits l.fn.catalog l.store
    × StoreGrown l.fn.store l.store
