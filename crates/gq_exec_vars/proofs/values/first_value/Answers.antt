use Rattle.std.proofs.Common.{ap, rules}
use Rattle.std.specs.Option.{option_map}
use Rattle.gq_value.specs.AccumViews.{accum_of}
use Rattle.gq_rules_meaning.specs.Queries.{places}
use Rattle.gq_rules_meaning.specs.States.{seen}
use Rattle.gq_rules_calendar.specs.Gregorian.{gregorian}
use Rattle.gq_plan_ir.specs.ExprView.{view}
use Rattle.gq_exec_vars.specs.Begun.{world_with}
use Rattle.gq_exec_vars.proofs.ValueLemmas.{first_own, first_told, first_halted}
use Rattle.gq_exec_vars.proofs.values.first_value.Goals as goal

pub returns-in-None-clause-told : goal.returns-in-None-clause-told
returns-in-None-clause-told c = λ s l.
    let w = world_with gregorian c.args.graph c.args.plan.now c.args.tuples.now in
    first_own (seen w s) (accum_of c.args.kind.now) (places w c.args.attached) (option_map view c.args.tree.now) (ap (option_map view) c.in-None.is)

pub returns-in-Ok-clause-told : goal.returns-in-Ok-clause-told
returns-in-Ok-clause-told c =
    first_told gregorian c.args.graph c.args.plan.now c.args.tuples.now c.args.live.now c.block_context-over.result (accum_of c.args.kind.now) c.args.attached c.args.tree.now c.in-Some.expr c.in-Some.is c.block_context-over.ensures
    c.in-Ok.value c.in-Ok.ensures.told

pub returns-in-Err-clause-told : goal.returns-in-Err-clause-told
returns-in-Err-clause-told c =
    first_halted gregorian c.args.graph c.args.plan.now c.args.tuples.now c.args.live.now c.block_context-over.result (accum_of c.args.kind.now) c.args.attached c.args.tree.now c.in-Some.expr c.in-Some.is c.block_context-over.ensures
    c.targets.result c.in-Err.halt (search rules) (search rules) c.in-Err.ensures.told
