use Rattle.std.proofs.Common.{subst, rules}
use Rattle.gq_eval_context.specs.Viewed.{Over}
use Rattle.gq_exec_contribute.specs.Prepared.{HasInts}
use Rattle.gq_exec_contribute.proofs.FedLemmas.{has_ints}
use Rattle.gq_exec_contribute.proofs.reading.is_of_ints.Goals as goal

pub returns-then-len-count : goal.returns-then-len-count
returns-then-len-count c =
    let o : Over = record { schema = c.over.inside.graph.catalog.now; vertices = c.over.inside.graph.store.now.vertices; edges = c.over.inside.graph.store.now.edges; plan = c.over.inside.plan.now; tuples = c.over.inside.tuples.now; frame = c.over.inside.frame.now } in
    λ all. subst (λ (o : Over). HasInts o c.args.number c.args.count) c.over.view_is
    (has_ints o c.args.number c.args.count c.in-Some.of.now c.as_slice.result.now c.in-Some.ensures c.as_slice.ensures (search rules) (c.are_ints.ensures all))
