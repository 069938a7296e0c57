use Rattle.std.proofs.Common.{ap}
use Rattle.gq_load.specs.Inserts.{steps_of_insert}
use Rattle.gq_load.specs.PutLaws.{put_refused}
use Rattle.gq_insert.specs.Inserting.{stored_or}
use Rattle.gq_insert.specs.InsertingLaws.{row_named, row_keeps, row_grows}
use Rattle.gq_insert.proofs.insert.put_row.Goals as goal

pub insert-requires : goal.insert-requires
insert-requires c = row_named c.args.catalog.now c.args.store.now c.args.row.now c.requires.sound c.requires.row c.requires.store

pub returns-in-Ok-clause-fits : goal.returns-in-Ok-clause-fits
returns-in-Ok-clause-fits c =
    row_keeps c.args.catalog.now c.args.store.now c.insert.new.store c.args.row.now c.insert.result c.requires.row c.insert.ensures c.requires.store

pub returns-in-Err-Full-clause-put : goal.returns-in-Err-Full-clause-put
returns-in-Err-Full-clause-put c =
    let full = rw c.in-Err-Full.field-0-is at c.in-Err-Full.ensures in
    (ap stored_or (put_refused c.args.store.now full.1.later (steps_of_insert c.args.row.now) full.1.refused), full.0)

pub returns-in-Ok-clause-grown : goal.returns-in-Ok-clause-grown
returns-in-Ok-clause-grown c = row_grows c.args.store.now c.insert.new.store c.args.row.now c.insert.result c.insert.ensures

pub returns-in-Err-Full-clause-grown : goal.returns-in-Err-Full-clause-grown
returns-in-Err-Full-clause-grown c = row_grows c.args.store.now c.insert.new.store c.args.row.now c.insert.result c.insert.ensures

pub returns-in-Err-OutOfMemory-clause-grown : goal.returns-in-Err-OutOfMemory-clause-grown
returns-in-Err-OutOfMemory-clause-grown c = row_grows c.args.store.now c.insert.new.store c.args.row.now c.insert.result c.insert.ensures
