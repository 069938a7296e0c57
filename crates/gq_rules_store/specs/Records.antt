-- Records: the rows that the records of a LOAD and an INSERT put are of their types.
use Rattle.std.specs.Prelude.{◌≡◌, ℕ, ℤ, List, Option, Some}
use Rattle.gq_graph.specs.Catalog.{Schema}
use Rattle.gq_tree.specs.declared.schema.InsertTree.{InsertTree}
use Rattle.gq_index.specs.declared.store.Store.{Store}
use Rattle.gq_index.specs.Steps.{Step}
use Rattle.gq_load_csv.specs.Fields.{TellsTimes}
use Rattle.gq_load_check.specs.declared.job.LoadLine.{LoadLine}
use Rattle.gq_load_check.specs.declared.insert.Insert.{Insert}
use Rattle.gq_load_check.specs.Fits.{LineFits}
use Rattle.gq_load.specs.Columns.{Fields}
use Rattle.gq_load.specs.Inserts.{steps_of_insert}
use Rattle.gq_load.specs.Loads.{all_steps, routes_of}
use Rattle.gq_load.specs.Puts.{put_all}
use Rattle.gq_insert.specs.Fits.{IsSound}
use Rattle.gq_insert.specs.Inserts.{insert_named}
use Rattle.gq_rules_store.specs.Upserts.{StepsFit, StoreRowsFit}

-- the upserts of a line's records, whatever the records are
abbrev pub RecordLaw : Type 0
RecordLaw = (read : List ℕ → Option ℤ) → TellsTimes read → (schema : Schema) → IsSound schema → (line : LoadLine) → LineFits schema line
    → (header : Option Fields) (records : List Fields) → StepsFit schema (all_steps read schema (routes_of schema line header) records)

-- the upserts of an INSERT that describes a row
abbrev pub InsertLaw : Type 0
InsertLaw = (read : List ℕ → Option ℤ) → TellsTimes read → (schema : Schema) → IsSound schema → (tree : InsertTree) (row : Insert)
    → insert_named read schema tree ≡ Some row → StepsFit schema (steps_of_insert row)

-- the store after upserts of such rows, if none of them is refused
abbrev pub PutLaw : Type 0
PutLaw = (schema : Schema) (before later : Store) (steps : List Step) → StepsFit schema steps → put_all before steps ≡ Some later → StoreRowsFit schema before → StoreRowsFit schema later
