use Rattle.gq_rules_calendar.specs.Gregorian.{gregorian}
use Rattle.gq_plan_ir.specs.BlockView.{view_acts}
use Rattle.gq_exec_post.proofs.RunLemmas.{matched_is, phase_ends, phase_stops}
use Rattle.gq_exec_post.proofs.post_accum.run_phase.Goals as goal

pub returns-in-Err-clause-told : goal.returns-in-Err-clause-told
returns-in-Err-clause-told c =
    phase_stops gregorian c.args.over.now c.args.ends.now c.args.target (view_acts c.args.acts.now) c.args.after c.end_at-end.result.now c.end_at-end.ensures c.matched-vertices.result.now
    (matched_is c.args.after c.args.target _ _ _ c.matched-vertices.ensures c.as_slice-found_sources.ensures c.as_slice-found_targets.ensures) c.in-Err.fault c.in-Err.ensures.told

pub returns-in-Ok-clause-told : goal.returns-in-Ok-clause-told
returns-in-Ok-clause-told c =
    phase_ends gregorian c.args.over.now c.args.ends.now c.args.target (view_acts c.args.acts.now) c.args.after c.end_at-end.result.now c.end_at-end.ensures c.matched-vertices.result.now
    (matched_is c.args.after c.args.target _ _ _ c.matched-vertices.ensures c.as_slice-found_sources.ensures c.as_slice-found_targets.ensures) c.in-Ok.accums c.in-Ok.ensures.told
