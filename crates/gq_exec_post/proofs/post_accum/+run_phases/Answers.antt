use Rattle.std.proofs.Common.{◌+◌, ◌-◌, add-one, drop, length, refl, take}
use Rattle.std.proofs.lemmas.List.{take_rest}
use Rattle.gq_rules_calendar.specs.Gregorian.{gregorian}
use Rattle.gq_exec_post.proofs.RunLemmas.{first_and_others, phases_go, phases_stop}
use Rattle.gq_exec_post.proofs.post_accum.+run_phases.Goals as goal

pub returns-in-Err-clause-told : goal.returns-in-Err-clause-told
returns-in-Err-clause-told t c =
    phases_stop gregorian c.args.over.now c.args.ends.now c.args.selects c.args.acts.now c.first-item.result (take (length c.args.acts.now - 1) (drop 1 c.args.acts.now)) c.for_target-target.result c.run_of-run.result (c.run_of-run.result + 1)
    (first_and_others c.args.acts.now c.first-item.result c.in-len1-up.len_at_least c.first-item.is) c.for_target-target.ensures c.run_of-run.ensures.told (add-one c.run_of-run.result) c.args.after (take (c.run_of-run.result + 1) c.args.acts.now) refl
    c.in-Err.fault c.in-Err.ensures.told

pub returns-in-Ok-clause-told : goal.returns-in-Ok-clause-told
returns-in-Ok-clause-told t c =
    phases_go gregorian c.args.over.now c.args.ends.now c.args.selects c.args.acts.now c.first-item.result (take (length c.args.acts.now - 1) (drop 1 c.args.acts.now)) c.for_target-target.result c.run_of-run.result (c.run_of-run.result + 1)
    (first_and_others c.args.acts.now c.first-item.result c.in-len1-up.len_at_least c.first-item.is) c.for_target-target.ensures c.run_of-run.ensures.told (add-one c.run_of-run.result) c.args.after (take (c.run_of-run.result + 1) c.args.acts.now) refl
    c.in-Ok.so_far (take (length c.args.acts.now - (c.run_of-run.result + 1)) (drop (c.run_of-run.result + 1) c.args.acts.now)) c.run_phases.result (take_rest c.args.acts.now (c.run_of-run.result + 1)) c.in-Ok.ensures.told c.run_phases.ensures.told
