use Rattle.std.proofs.Common.{ℕ, ap, ◌∙◌, Err}
use Rattle.gq_index.specs.Ends.{row_of}
use Rattle.gq_index.specs.Steps.{name_of}
use Rattle.gq_index.proofs.StepLemmas.{err_before, err_more, done_more, edge_ok, edge_err}
use Rattle.gq_index.proofs.NamingLemmas.{named_after}
use Rattle.gq_index.proofs.put.put_edge.Goals as goal

pub returns-in-Err-clause-puts : goal.returns-in-Err-clause-puts
returns-in-Err-clause-puts c = err_before ℕ ℕ c.args.store.now c.put_end.new.store _ _ c.in-Err.fault c.in-Err.ensures.puts

pub returns-in-Err-put_end-clause-puts : goal.returns-in-Err-put_end-clause-puts
returns-in-Err-put_end-clause-puts c =
    err_more ℕ ℕ c.args.store.now c.put_end.new.store c.put_end-2.new.store _ _ c.in-Err-put_end.fault c.in-Ok.ensures.puts
    (err_before ℕ ℕ c.put_end.new.store c.put_end-2.new.store _ _ c.in-Err-put_end.fault c.in-Err-put_end.ensures.puts)

pub returns-in-Ok-upsert-clause-puts : goal.returns-in-Ok-upsert-clause-puts
returns-in-Ok-upsert-clause-puts c =
    done_more c.args.store.now c.put_end.new.store _ _ _ c.in-Ok.ensures.puts
    (done_more c.put_end.new.store c.put_end-2.new.store _ _ _ c.in-Ok-put_end.ensures.puts
    (edge_ok c.put_end-2.new.store c.upsert.new.self c.args.naming (name_of (row_of c.args.from)) (name_of (row_of c.args.to)) c.args.attributes.now c.in-Ok.number c.in-Ok-put_end.number
    (c.in-Ok-put_end.ensures.others _ _ _ c.in-Ok.ensures.number) c.in-Ok-put_end.ensures.number c.in-Ok-upsert.ensures.done.1
    (λ full. let e = c.in-Ok-upsert.ensures.full.1 full in cc)))

pub returns-in-Err-upsert-clause-puts : goal.returns-in-Err-upsert-clause-puts
returns-in-Err-upsert-clause-puts c =
    err_more ℕ ℕ c.args.store.now c.put_end.new.store _ _ _ c.in-Err-upsert.fault c.in-Ok.ensures.puts
    (err_more ℕ ℕ c.put_end.new.store c.put_end-2.new.store _ _ _ c.in-Err-upsert.fault c.in-Ok-put_end.ensures.puts
    (edge_err ℕ c.put_end-2.new.store c.upsert.new.self c.args.naming (name_of (row_of c.args.from)) (name_of (row_of c.args.to)) c.args.attributes.now c.in-Ok.number c.in-Ok-put_end.number c.in-Err-upsert.fault
    (c.in-Ok-put_end.ensures.others _ _ _ c.in-Ok.ensures.number) c.in-Ok-put_end.ensures.number c.in-Err-upsert.ensures.done
    (λ full. c.in-Err-upsert.ensures.full.0 (ap Err full))))

pub returns-in-Ok-upsert-clause-named : goal.returns-in-Ok-upsert-clause-named
returns-in-Ok-upsert-clause-named c type_at is named =
    named_after type_at c.args.store.now.edges c.put_end-2.new.store.edges c.upsert.new.self c.args.naming _ is (c.in-Ok-put_end.ensures.edges ∙ c.in-Ok.ensures.edges) c.in-Ok-upsert.ensures.done.1 named
