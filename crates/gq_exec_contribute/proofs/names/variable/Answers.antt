use Rattle.std.proofs.Common.{subst, rules}
use Rattle.gq_eval_context.specs.Viewed.{Over}
use Rattle.gq_exec_contribute.specs.Prepared.{IsHeld}
use Rattle.gq_exec_contribute.proofs.NameLemmas.{held_made}
use Rattle.gq_exec_contribute.proofs.names.variable.Goals as goal

pub returns-in-Some-Some-Value : goal.returns-in-Some-Some-Value
returns-in-Some-Some-Value c =
    let o : Over = record { schema = c.over.inside.graph.catalog.now; vertices = c.over.inside.graph.store.now.vertices; edges = c.over.inside.graph.store.now.edges; plan = c.over.inside.plan.now; tuples = c.over.inside.tuples.now; frame = c.over.inside.frame.now } in
    subst (λ (o : Over). IsHeld o c.args.leaves.now c.args.place c.in-Some-Some-Value.value) c.over.view_is
    (held_made o c.args.leaves.now c.args.place c.in-Some-Some-Value._base c.in-Some-Some-Value.value (c.is_no_alias.ensures (search rules)) (search rules))
