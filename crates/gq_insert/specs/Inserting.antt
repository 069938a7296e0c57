-- Inserting: the store after INSERT INTO, or why the statement is refused.
use Rattle.std.specs.Prelude.{Option, Some, None, option_and_then, Result, Ok, Err}
use Rattle.gq_graph.specs.Catalog.{Schema}
use Rattle.gq_tree.specs.declared.schema.InsertTree.{InsertTree}
use Rattle.gq_diagnostics.specs.declared.refusal.Refusal.{Refusal}
use Rattle.gq_diagnostics.specs.declared.refusal.Refusal.TheVariants as refusal
use Rattle.gq_index.specs.declared.store.Store.{Store}
use Rattle.gq_load_check.specs.declared.insert.Insert.{Insert}
use Rattle.gq_load_check.specs.declared.insert.InsertFault.{InsertFault}
use Rattle.gq_load_check.specs.declared.insert.InsertFault.TheVariants as fault
use Rattle.gq_insert.specs.Inserts.{insert_named, insert_refusal}
use Rattle.gq_load.specs.Inserts.{steps_of_insert}
use Rattle.gq_load_csv.specs.Readings.{reading}
use Rattle.gq_load.specs.Puts.{put_all}

-- the refusal of a statement for the fault of its row; OutOfMemory isn't a refusal
abbrev pub refusal_of : InsertFault → Option Refusal
refusal_of (fault.NoSuchType x) = Some (refusal.NoSuchType x)
refusal_of (fault.WrongCount x) = Some (refusal.WrongCount x)
refusal_of fault.NotAllowed = Some refusal.NotAllowed
refusal_of fault.Mismatch = Some refusal.Mismatch
refusal_of fault.OutOfMemory = None

-- the refusal if one is due, else the result of putting the row
abbrev pub refused_or : Option Refusal → Result Store Refusal → Result Store Refusal
refused_or None put = put
refused_or (Some due) put = Err due

-- the same, unless a rule fails
abbrev pub unless_refused : Option InsertFault → Result Store Refusal → Result Store Refusal
unless_refused due put = refused_or (option_and_then refusal_of due) put

abbrev pub stored_or : Option Store → Result Store Refusal
stored_or (Some store) = Ok store
stored_or None = Err refusal.StoreFull

-- the store with the row put into it, unless an upsert is refused
abbrev pub row_put : Store → Insert → Result Store Refusal
row_put store row = stored_or (put_all store (steps_of_insert row))

-- the same for the row of a tree; a tree without one was refused before
abbrev pub named_put : Store → Option Insert → Result Store Refusal
named_put store (Some row) = row_put store row
named_put store None = Err refusal.Mismatch

-- INSERT INTO
abbrev pub row_inserted : Schema → Store → InsertTree → Result Store Refusal
row_inserted schema store tree =
    unless_refused (insert_refusal reading schema tree) (named_put store (insert_named reading schema tree))
