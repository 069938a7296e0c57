use Rattle.std.proofs.Common.{◌≡◌, drop}
use Rattle.gq_io.specs.Listing.{named}
use Rattle.gq_io.proofs.memory_files.SureFilesFiles.read.Given as goal

abbrev pub invariant-loop-entry : goal.invariant-loop-entry
invariant-loop-entry l = named l.name (drop l.entry-index l.entry-items) ≡ named l.name l.entry-items
