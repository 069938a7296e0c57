use Rattle.std.specs.Arc.{arc_value}
use Rattle.gq_store_tests.proofs.shared.over.Given as goal

-- the store that is shared, its catalog and its history, which is new
abbrev pub ghosts-shared : goal.ghosts-shared
ghosts-shared g a = record { base = a.base; schema = arc_value a.catalog; book = a.history.seen.book }
