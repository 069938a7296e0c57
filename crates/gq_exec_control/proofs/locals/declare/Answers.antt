use Rattle.std.proofs.Common.{ap, subst, ◌∙◌}
use Rattle.gq_rules_calendar.specs.Gregorian.{gregorian}
use Rattle.gq_plan_ir.specs.PlanView.{view_declared, view_locals}
use Rattle.gq_exec_control.specs.Contexts.{Basis, world_on}
use Rattle.gq_exec_control.proofs.ContextLemmas.{becomes_returned}
use Rattle.gq_exec_control.specs.Locals.{IsKnown, IsUnknown, base_declared}
use Rattle.gq_exec_control.proofs.LocalLemmas.{all_declared, base_known, next_stops, type_stops}
use Rattle.gq_exec_control.proofs.locals.declare.Goals as goal

pub returns-in_err-declare_one-clause-names : goal.returns-in_err-declare_one-clause-names
returns-in_err-declare_one-clause-names c =
    let known : IsKnown c.args.context.now.plan.vertices c.args.declared = subst (λ vs. IsKnown vs c.args.declared) (c.as_slice.ensures ∙ ap (λ (b : Basis). b.plan.vertices) c.context.view_is) (c.is_known.ensures.known c.if-not-is_known.false) in
    becomes_returned _ _ _ c.in_err-declare_one.field-0.0 c.from_residual.result c.from_residual.ensures.1
    (next_stops (world_on gregorian c.args.context.now) (base_declared c.args.declared) c.args.locals.now c.args.live.now (view_declared c.args.declared) c.loop-local.local-index c.local-item.result
    c.loop-local.live c.declare_one.new.live c.declare_one.new.live c.in_err-declare_one.field-0.0 (base_known gregorian c.args.context.now c.args.declared known) c.loop-local-test.true c.local-item.is c.loop-local.invariant.declares c.in_err-declare_one.ensures.names)

pub returns-clause-names : goal.returns-clause-names
returns-clause-names c =
    let known : IsKnown c.args.context.now.plan.vertices c.args.declared = subst (λ vs. IsKnown vs c.args.declared) (c.as_slice.ensures ∙ ap (λ (b : Basis). b.plan.vertices) c.context.view_is) (c.is_known.ensures.known c.if-not-is_known.false) in
    all_declared (world_on gregorian c.args.context.now) (base_declared c.args.declared) c.args.locals.now c.args.live.now (view_declared c.args.declared) c.loop-local.local-index c.loop-local.live
    (base_known gregorian c.args.context.now c.args.declared known) c.loop-local-test.false c.loop-local.invariant.declares

pub returns-then-not-is_known-clause-names : goal.returns-then-not-is_known-clause-names
returns-then-not-is_known-clause-names c =
    let unknown : IsUnknown c.args.context.now.plan.vertices c.args.declared = subst (λ vs. IsUnknown vs c.args.declared) (c.as_slice.ensures ∙ ap (λ (b : Basis). b.plan.vertices) c.context.view_is) (c.is_known.ensures.unknown c.if-not-is_known.true) in
    type_stops gregorian c.args.context.now c.args.declared (view_locals c.args.locals.now) c.args.live.now c.args.live.now unknown
