use Rattle.std.proofs.Common.{length, refl}
use Rattle.gq_value.specs.AccumViews.{accum_of}
use Rattle.gq_rules_calendar.specs.Gregorian.{gregorian}
use Rattle.gq_exec_vars.proofs.OpenLemmas.{accum_done, accum_ends}
use Rattle.gq_exec_vars.proofs.accums.accum.Goals as goal

pub returns-in_err-first-clause-leads : goal.returns-in_err-first-clause-leads
returns-in_err-first-clause-leads c =
    accum_ends gregorian c.args.graph c.args.plan.now c.args.tuples.now (accum_of c.args.kind.now) c.args.tree.now c.args.live.now c.args.live.now c.in_err-first.field-0.0 c.from_residual.result c.from_residual.ensures.1 c.in_err-first.ensures.told

pub returns-clause-leads : goal.returns-clause-leads
returns-clause-leads c =
    accum_done gregorian c.args.graph c.args.plan.now c.args.tuples.now (accum_of c.args.kind.now) c.args.tree.now c.in_ok-first.first c.args.live.now _ c.in_ok-first.ensures.told c.in_ok-add_slot.ensures.adds c.requires.ready
    c.requires.next refl refl

pub returns-clause-ready : goal.returns-clause-ready
returns-clause-ready c = c.in_ok-add_slot.ensures.ready (length c.args.graph.store.now.vertices) c.requires.ready
