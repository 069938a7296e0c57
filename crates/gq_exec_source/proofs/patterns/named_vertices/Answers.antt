use Rattle.gq_exec_source.proofs.StepLemmas.{these_vertices}
use Rattle.gq_exec_source.proofs.patterns.named_vertices.Goals as goal

pub returns : goal.returns
returns c = these_vertices c.args.catalog.now c.args.plan.now c.as_slice.result.now c.args.types.now c.in_ok-own_only.field-0.items c.by_number.result c.as_slice.ensures c.in_ok-own_only.ensures c.by_number.ensures
