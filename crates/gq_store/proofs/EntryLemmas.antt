-- EntryLemmas: the history of an entry that comes next is what a copy has, and the entry's insert.
use Rattle.std.proofs.Common.{◌≡◌, List, [], ◌∷◌, ◌++◌, Bool}
use Rattle.gq_graph.specs.Catalog.{Schema}
use Rattle.gq_load_check.specs.declared.insert.Insert.{Insert}
use Rattle.gq_store.specs.declared.view.Shown.{Shown}
use Rattle.gq_store.specs.Entries.{IsEntry}
use Rattle.gq_store.specs.Histories.{IsOneLonger}
use Rattle.gq_store.proofs.Beginnings.{next_is}

-- what a copy shows
abbrev pub shown_as : List Insert → Bool → Shown
shown_as rows sealed = record { rows = rows; sealed = sealed }

pub entry_next : (schema : Schema) (front rows : List Insert) (row : Insert) → IsOneLonger front rows → IsEntry schema row rows → rows ≡ front ++ row ∷ []
entry_next schema front rows row next entry = next_is entry.ends.before rows front row entry.ends.whole next.begins next.long
