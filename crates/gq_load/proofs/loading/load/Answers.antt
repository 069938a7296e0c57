use Rattle.std.proofs.Common.{◌∙◌, sym, arith}
use Rattle.gq_load.proofs.LoadLemmas.{with_header, with_no_header, no_records}
use Rattle.gq_load.proofs.loading.load.Goals as goal

pub returns-in-Ok-true-clause-loads : goal.returns-in-Ok-true-clause-loads
returns-in-Ok-true-clause-loads c read tells =
    with_header read c.args.catalog.now c.args.line.now _ c.next.new.self c.next.new.row c.args.store.now c.load_by-in-Ok-true.new.store c.load_by-in-Ok-true.result
    (grind arith) (sym c.open-records.ensures ∙ rw c.in-Ok-true.field-0-test at c.in-Ok-true.ensures) (c.load_by-in-Ok-true.ensures.loads read tells)

pub returns-in-Ok-false-clause-loads : goal.returns-in-Ok-false-clause-loads
returns-in-Ok-false-clause-loads c read tells =
    with_no_header read c.args.catalog.now c.args.line.now _ c.open-none.result c.args.store.now c.load_by-in-Ok-false.new.store c.load_by-in-Ok-false.result
    (grind arith) (sym c.open-records.ensures ∙ rw c.in-Ok-false.field-0-test at c.in-Ok-false.ensures) (c.open-none.ensures ∙ no_records c.args.line.now.separator c.args.line.now.quote) (c.load_by-in-Ok-false.ensures.loads read tells)
