use Rattle.std.proofs.Common.{◌≡◌, drop}
use Rattle.gq_load_check.specs.Lines as spec
use Rattle.gq_load_check.specs.Placed.{FilesPlaced}
use Rattle.gq_load_check.proofs.files.JobFiles.of.Given as goal

abbrev pub invariant-loop-place : goal.invariant-loop-place
invariant-loop-place l = (l.files ≡ spec.files_of (drop l.place l.lines)) × FilesPlaced l.files l.places
