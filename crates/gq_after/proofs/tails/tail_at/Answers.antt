use Rattle.gq_rules_calendar.specs.Gregorian.{gregorian}
use Rattle.gq_eval_context.specs.Looks.{world_over}
use Rattle.gq_after.specs.Sights.{plain_look, vertex_look}
use Rattle.gq_after.proofs.TailLemmas.{order_ends_tail, sorted_apart_there, then_cut}
use Rattle.gq_after.proofs.tails.tail_at.Goals as goal

pub returns-in-Err-ordered : goal.returns-in-Err-ordered
returns-in-Err-ordered c =
    order_ends_tail (world_over gregorian c.args.over.now) (vertex_look gregorian c.args.over.now c.args.accums.now c.args.end.now) (plain_look gregorian c.args.over.now c.args.accums.now)
    c.args.block.now c.args.vertices.now c.in-Ok.passed c.in-Ok.ensures c.as_slice.result.now c.in-Err-ordered.fault c.as_slice.ensures c.in-Err-ordered.ensures

pub cut-requires-clause-once : goal.cut-requires-clause-once
cut-requires-clause-once c =
    sorted_apart_there (world_over gregorian c.args.over.now) (vertex_look gregorian c.args.over.now c.args.accums.now c.args.end.now) (plain_look gregorian c.args.over.now c.args.accums.now)
    c.args.block.now c.args.vertices.now c.in-Ok.passed c.in-Ok.ensures c.as_slice.result.now c.in-Ok-ordered.sorted c.as_slice-in-Ok-ordered.result.now
    c.requires.once c.in-Ok-ordered.ensures c.as_slice-in-Ok-ordered.ensures

pub returns-in-Ok-ordered : goal.returns-in-Ok-ordered
returns-in-Ok-ordered c =
    then_cut (world_over gregorian c.args.over.now) (vertex_look gregorian c.args.over.now c.args.accums.now c.args.end.now) (plain_look gregorian c.args.over.now c.args.accums.now)
    c.args.block.now c.args.vertices.now c.in-Ok.passed c.in-Ok.ensures c.as_slice.result.now c.in-Ok-ordered.sorted c.as_slice-in-Ok-ordered.result.now c.cut.result
    c.as_slice.ensures c.in-Ok-ordered.ensures c.as_slice-in-Ok-ordered.ensures c.cut.ensures
