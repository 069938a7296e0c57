use Rattle.std.proofs.Common.{refl, subst}
use Rattle.gq_diagnostics.specs.Answers.{Answers}
use Rattle.gq_index.proofs.KeptLemmas.{store_same}
use Rattle.gq_insert.specs.Inserts.{insert_named, insert_refusal}
use Rattle.gq_load_csv.specs.Readings.{reading, reading_tells}
use Rattle.gq_insert.specs.Inserting.{named_put}
use Rattle.gq_insert.specs.InsertingLaws.{row_due}
use Rattle.gq_insert.proofs.insert.insert_row.Goals as goal

pub returns-in-Ok-clause-inserted : goal.returns-in-Ok-clause-inserted
returns-in-Ok-clause-inserted c =
    subst (λ meant. Answers meant c.args.store.now c.put_row.new.store c.put_row.result)
    (row_due c.args.catalog.now c.args.store.now c.args.tree.now c.in-Ok.row (c.in-Ok.ensures.judged reading reading_tells) (c.in-Ok.ensures.made reading reading_tells))
    c.put_row.ensures.put

pub returns-in-Err-clause-inserted : goal.returns-in-Err-clause-inserted
returns-in-Err-clause-inserted c =
    c.statement_fault.ensures (insert_refusal reading c.args.catalog.now c.args.tree.now) (named_put c.args.store.now (insert_named reading c.args.catalog.now c.args.tree.now))
    c.args.store.now c.args.store.now (c.in-Err.ensures.judged reading reading_tells) refl

pub returns-in-Err-clause-grown : goal.returns-in-Err-clause-grown
returns-in-Err-clause-grown c = store_same c.args.store.now
