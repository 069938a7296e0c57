use Rattle.gq_exec_source.proofs.StepLemmas.{these_edges}
use Rattle.gq_exec_source.proofs.patterns.edge_types.Goals as goal

pub returns-in_ok-named-in-These : goal.returns-in_ok-named-in-These
returns-in_ok-named-in-These c =
    these_edges c.args.catalog.now c.args.plan.now c.args.types.now c.in-These.types c.as_slice-in-These.result.now c.as_slice-in-These-2.result.now c.in_ok-named-in-These.named.items c.from_vec.result
    c.in-These.is c.as_slice-in-These.ensures c.as_slice-in-These-2.ensures c.from_vec.ensures c.in_ok-named-in-These.ensures
