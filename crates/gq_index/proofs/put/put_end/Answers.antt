use Rattle.std.proofs.Common.{ℕ, ap, sym, refl, Err}
use Rattle.gq_index.specs.Ends.{row_of}
use Rattle.gq_index.proofs.StepLemmas.{none_begun, end_there, end_ok, end_err, number_new}
use Rattle.gq_index.proofs.put.put_end.Goals as goal

pub returns-in-Err-clause-puts : goal.returns-in-Err-clause-puts
returns-in-Err-clause-puts c = none_begun c.args.store.now c.args.store.now _ refl

pub returns-in-Some-clause-puts : goal.returns-in-Some-clause-puts
returns-in-Some-clause-puts c = end_there c.args.store.now (row_of c.args.end) c.in-Some.number (sym c.in-Some.ensures)

pub returns-in-Ok-upsert-clause-puts : goal.returns-in-Ok-upsert-clause-puts
returns-in-Ok-upsert-clause-puts c =
    end_ok c.args.store.now c.upsert.new.self (row_of c.args.end) (sym c.in-None.ensures) (rw c.in-Ok.ensures at c.in-Ok-upsert.ensures.done.1) (λ full. let e = c.in-Ok-upsert.ensures.full.1 full in cc)

pub returns-in-Ok-upsert-clause-number : goal.returns-in-Ok-upsert-clause-number
returns-in-Ok-upsert-clause-number c =
    number_new c.args.store.now.vertices c.upsert.new.self (row_of c.args.end) c.in-Ok-upsert.number (sym c.in-None.ensures) (rw c.in-Ok.ensures at c.in-Ok-upsert.ensures.done.1) c.in-Ok-upsert.ensures.done.0

pub returns-clause-puts : goal.returns-clause-puts
returns-clause-puts c =
    end_err ℕ c.args.store.now c.upsert.new.self (row_of c.args.end) c.in-Err-upsert.fault c.in-Err-upsert.ensures.done (λ full. c.in-Err-upsert.ensures.full.0 (ap Err full))
