use Rattle.gq_rules_calendar.specs.Gregorian.{gregorian}
use Rattle.gq_after.proofs.TailLemmas.{tail_at_source, tail_at_target}
use Rattle.gq_after.proofs.tails.tail.Goals as goal

pub returns-then-selects_target : goal.returns-then-selects_target
returns-then-selects_target c =
    tail_at_target gregorian c.args.over.now c.args.block.now c.args.ends.now c.args.after.now c.selects_target.result c.as_slice-vertices.result.now c.tail_at.result c.as_slice-vertices.ensures c.requires.ends
    c.selects_target.ensures c.if-selects_target.true c.tail_at.ensures

pub returns-else-selects_target : goal.returns-else-selects_target
returns-else-selects_target c =
    tail_at_source gregorian c.args.over.now c.args.block.now c.args.ends.now c.args.after.now c.selects_target.result c.as_slice-vertices-else-selects_target.result.now c.tail_at-else-selects_target.result
    c.as_slice-vertices-else-selects_target.ensures c.requires.ends c.selects_target.ensures c.if-selects_target.false c.tail_at-else-selects_target.ensures
