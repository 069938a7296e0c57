use Rattle.std.proofs.Common.{ℕ, ap, Err}
use Rattle.gq_index.proofs.StepLemmas.{vertex_ok, vertex_err}
use Rattle.gq_index.proofs.put.put_vertex.Goals as goal

pub returns-in-Ok-clause-puts : goal.returns-in-Ok-clause-puts
returns-in-Ok-clause-puts c = vertex_ok c.args.store.now c.upsert.new.self _ c.in-Ok.ensures.done.1 (λ full. let e = c.in-Ok.ensures.full.1 full in cc)

pub returns-in-Err-clause-puts : goal.returns-in-Err-clause-puts
returns-in-Err-clause-puts c = vertex_err ℕ c.args.store.now c.upsert.new.self _ c.in-Err.fault c.in-Err.ensures.done (λ full. c.in-Err.ensures.full.0 (ap Err full))
