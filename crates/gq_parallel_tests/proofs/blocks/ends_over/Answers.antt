use Rattle.std.proofs.Common.{List, Option, subst}
use Rattle.std.specs.Prelude.{IfOk}
use Rattle.gq_frame.specs.declared.frame.Thing.{Thing}
use Rattle.gq_eval_context.specs.Viewed.{Over}
use Rattle.gq_exec_source.specs.Ends.{HasEnds}
use Rattle.gq_parallel_tests.proofs.blocks.ends_over.Goals as goal

pub returns : goal.returns
returns c =
    subst (λ (o : Over). IfOk c.ends_of.result (HasEnds o.schema o.plan o.frame.things c.args.block.now)) c.over.view_is
    (subst (λ (things : List (Option Thing)). IfOk c.ends_of.result (HasEnds c.over.inside.graph.catalog.now c.over.inside.plan.now things c.args.block.now)) c.as_slice-things.ensures c.ends_of.ensures)
