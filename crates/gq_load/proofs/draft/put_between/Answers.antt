use Rattle.std.proofs.Common.{ℕ, ap, refl, Err}
use Rattle.gq_index.specs.Steps.{name_of}
use Rattle.gq_index.proofs.StepLemmas.{err_more, done_more, edge_ok, edge_err, end_there}
use Rattle.gq_index.proofs.NamingLemmas.{named_after}
use Rattle.gq_load.proofs.draft.put_between.Goals as goal

pub returns-in-Ok-clause-puts : goal.returns-in-Ok-clause-puts
returns-in-Ok-clause-puts c = λ a b from to.
    done_more c.args.store.now c.args.store.now _ _ _ (end_there c.args.store.now a c.args.from from)
    (done_more c.args.store.now c.args.store.now _ _ _ (end_there c.args.store.now b c.args.to to)
    (edge_ok c.args.store.now c.upsert.new.self c.args.naming (name_of a) (name_of b) c.args.attributes.now c.args.from c.args.to from to c.in-Ok.ensures.done.1
    (λ full. let e = c.in-Ok.ensures.full.1 full in cc)))

pub returns-in-Err-clause-puts : goal.returns-in-Err-clause-puts
returns-in-Err-clause-puts c = λ a b from to.
    err_more ℕ ℕ c.args.store.now c.args.store.now _ _ _ c.in-Err.fault (end_there c.args.store.now a c.args.from from)
    (err_more ℕ ℕ c.args.store.now c.args.store.now _ _ _ c.in-Err.fault (end_there c.args.store.now b c.args.to to)
    (edge_err ℕ c.args.store.now c.upsert.new.self c.args.naming (name_of a) (name_of b) c.args.attributes.now c.args.from c.args.to c.in-Err.fault from to c.in-Err.ensures.done
    (λ full. c.in-Err.ensures.full.0 (ap Err full))))

pub returns-in-Ok-clause-named : goal.returns-in-Ok-clause-named
returns-in-Ok-clause-named c = λ type_at is named.
    named_after type_at c.args.store.now.edges c.args.store.now.edges c.upsert.new.self c.args.naming _ is refl c.in-Ok.ensures.done.1 named
