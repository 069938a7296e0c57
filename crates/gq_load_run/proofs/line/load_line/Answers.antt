use Rattle.std.proofs.Common.{ap, ◌∙◌}
use Rattle.gq_load.specs.Loads.{records_in}
use Rattle.gq_load_run.specs.Loads.{Fails}
use Rattle.gq_load_csv.specs.Readings.{reading, reading_tells}
use Rattle.gq_load_run.specs.LoadingLaws.{says_loaded, says_missing, says_full, missing_leaves, full_leaves, says_begun, says_fits, says_grown}
use Rattle.gq_load_run.proofs.line.load_line.Goals as goal

pub returns-in-Ok-clause-done : goal.returns-in-Ok-clause-done
returns-in-Ok-clause-done c =
    says_loaded c.args.catalog.now c.args.line.now (records_in c.args.line.now c.args.bytes.now) c.args.store.now c.load.new.store c.in-Ok.report (c.in-Ok.ensures.loads reading reading_tells)

pub returns-in-Ok-clause-fits : goal.returns-in-Ok-clause-fits
returns-in-Ok-clause-fits c =
    says_fits c.args.catalog.now c.args.line.now (records_in c.args.line.now c.args.bytes.now) c.args.store.now c.load.new.store c.load.result c.requires.ends c.requires.line (c.load.ensures.loads reading reading_tells) c.requires.store

pub returns-in-Err-NoColumn-clause-refused : goal.returns-in-Err-NoColumn-clause-refused
returns-in-Err-NoColumn-clause-refused c = λ refusal same.
    let says = c.in-Err-NoColumn.ensures.loads reading reading_tells in
    says_missing c.args.catalog.now c.args.line.now (records_in c.args.line.now c.args.bytes.now) c.args.store.now c.load.new.store c.in-Err-NoColumn.name (rw c.in-Err-NoColumn.field-0-is at says)
    ∙ ap Fails (cc)

pub returns-in-Err-NoColumn-clause-left : goal.returns-in-Err-NoColumn-clause-left
returns-in-Err-NoColumn-clause-left c =
    let says = c.in-Err-NoColumn.ensures.loads reading reading_tells in
    missing_leaves c.args.catalog.now c.args.line.now (records_in c.args.line.now c.args.bytes.now) c.args.store.now c.load.new.store c.in-Err-NoColumn.name (rw c.in-Err-NoColumn.field-0-is at says)

pub returns-in-Err-NoColumn-clause-fits : goal.returns-in-Err-NoColumn-clause-fits
returns-in-Err-NoColumn-clause-fits c =
    says_fits c.args.catalog.now c.args.line.now (records_in c.args.line.now c.args.bytes.now) c.args.store.now c.load.new.store c.load.result c.requires.ends c.requires.line (c.load.ensures.loads reading reading_tells) c.requires.store

pub returns-in-Err-Full-clause-refused : goal.returns-in-Err-Full-clause-refused
returns-in-Err-Full-clause-refused c = λ refusal same.
    let says = c.in-Err-Full.ensures.loads reading reading_tells in
    says_full c.args.catalog.now c.args.line.now (records_in c.args.line.now c.args.bytes.now) c.args.store.now c.load.new.store (rw c.in-Err-Full.field-0-is at says)
    ∙ ap Fails (cc)

pub returns-in-Err-Full-clause-left : goal.returns-in-Err-Full-clause-left
returns-in-Err-Full-clause-left c =
    let says = c.in-Err-Full.ensures.loads reading reading_tells in
    full_leaves c.args.catalog.now c.args.line.now (records_in c.args.line.now c.args.bytes.now) c.args.store.now c.load.new.store (rw c.in-Err-Full.field-0-is at says)

pub returns-in-Err-Full-clause-fits : goal.returns-in-Err-Full-clause-fits
returns-in-Err-Full-clause-fits c =
    says_fits c.args.catalog.now c.args.line.now (records_in c.args.line.now c.args.bytes.now) c.args.store.now c.load.new.store c.load.result c.requires.ends c.requires.line (c.load.ensures.loads reading reading_tells) c.requires.store

pub returns-in-Err-OutOfMemory-clause-left : goal.returns-in-Err-OutOfMemory-clause-left
returns-in-Err-OutOfMemory-clause-left c =
    says_begun c.args.catalog.now c.args.line.now (records_in c.args.line.now c.args.bytes.now) c.args.store.now c.load.new.store c.load.result (c.load.ensures.loads reading reading_tells)

pub returns-in-Err-OutOfMemory-clause-fits : goal.returns-in-Err-OutOfMemory-clause-fits
returns-in-Err-OutOfMemory-clause-fits c =
    says_fits c.args.catalog.now c.args.line.now (records_in c.args.line.now c.args.bytes.now) c.args.store.now c.load.new.store c.load.result c.requires.ends c.requires.line (c.load.ensures.loads reading reading_tells) c.requires.store

pub returns-in-Ok-clause-grown : goal.returns-in-Ok-clause-grown
returns-in-Ok-clause-grown c =
    says_grown c.args.catalog.now c.args.line.now (records_in c.args.line.now c.args.bytes.now) c.args.store.now c.load.new.store c.load.result (c.load.ensures.loads reading reading_tells)

pub returns-in-Err-NoColumn-clause-grown : goal.returns-in-Err-NoColumn-clause-grown
returns-in-Err-NoColumn-clause-grown c =
    says_grown c.args.catalog.now c.args.line.now (records_in c.args.line.now c.args.bytes.now) c.args.store.now c.load.new.store c.load.result (c.load.ensures.loads reading reading_tells)

pub returns-in-Err-Full-clause-grown : goal.returns-in-Err-Full-clause-grown
returns-in-Err-Full-clause-grown c =
    says_grown c.args.catalog.now c.args.line.now (records_in c.args.line.now c.args.bytes.now) c.args.store.now c.load.new.store c.load.result (c.load.ensures.loads reading reading_tells)

pub returns-in-Err-OutOfMemory-clause-grown : goal.returns-in-Err-OutOfMemory-clause-grown
returns-in-Err-OutOfMemory-clause-grown c =
    says_grown c.args.catalog.now c.args.line.now (records_in c.args.line.now c.args.bytes.now) c.args.store.now c.load.new.store c.load.result (c.load.ensures.loads reading reading_tells)
