use Rattle.std.proofs.Common.{Ok, Err, refl, subst}
use Rattle.std.specs.Option.{option_map}
use Rattle.gq_value.specs.AccumViews.{base_of}
use Rattle.gq_value.specs.Accums.{Base}
use Rattle.gq_rules_calendar.specs.Gregorian.{gregorian}
use Rattle.gq_plan_ir.specs.ExprView.{view}
use Rattle.gq_plan_ir.specs.Reference.{Place}
use Rattle.gq_exec_control.specs.Changes.{Becomes}
use Rattle.gq_exec_control.specs.Contexts.{world_on}
use Rattle.gq_exec_control.specs.Locals.{declared_one}
use Rattle.gq_exec_control.proofs.LocalLemmas.{one_done, one_stops}
use Rattle.gq_exec_control.proofs.locals.declare_one.Goals as goal

pub returns-in-Err-clause-names : goal.returns-in-Err-clause-names
returns-in-Err-clause-names c =
    subst (λ (b : Base). Becomes (declared_one (world_on gregorian c.args.context.now) b (Place c.args.place, option_map view c.args.local.now)) c.args.live.now c.args.live.now (Err c.in-Err.fault)) c.base_declared-base.ensures
    (one_stops (world_on gregorian c.args.context.now) c.args.place (base_of c.base_declared-base.result) (option_map view c.args.local.now) c.args.live.now c.args.live.now c.in-Err.fault c.in-Err.ensures)

pub returns-in-Ok-declare-clause-names : goal.returns-in-Ok-declare-clause-names
returns-in-Ok-declare-clause-names c =
    subst (λ (b : Base). Becomes (declared_one (world_on gregorian c.args.context.now) b (Place c.args.place, option_map view c.args.local.now)) c.args.live.now c.declare.new.self (Ok tt)) c.base_declared-base.ensures
    (one_done (world_on gregorian c.args.context.now) c.args.place (base_of c.base_declared-base.result) (option_map view c.args.local.now) c.args.live.now c.declare.new.self c.base_declared-base.result c.in-Ok.value refl c.in-Ok.ensures c.in-Ok-declare.ensures.names)
