use Rattle.gq_rules_calendar.specs.Gregorian.{gregorian}
use Rattle.gq_exec_post.proofs.PostLemmas.{post_told}
use Rattle.gq_exec_post.proofs.post_accum.post.Goals as goal

pub returns-clause-told : goal.returns-clause-told
returns-clause-told c =
    post_told gregorian c.args.over.now c.args.block.now c.args.ends.now c.args.after c.selects_target-selects.result c.as_slice.result.now c.run_phases.result c.as_slice.ensures c.requires.ends
    c.selects_target-selects.ensures c.run_phases.ensures.told
