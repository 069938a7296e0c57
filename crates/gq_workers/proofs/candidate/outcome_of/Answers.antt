use Rattle.std.proofs.Common.{map, take, arith}
use Rattle.std.proofs.lemmas.List.{length-take}
use Rattle.gq_rules_calendar.specs.Gregorian.{gregorian}
use Rattle.gq_frame.specs.Names.{alias_of}
use Rattle.gq_workers.proofs.FoundLemmas.{under_own}
use Rattle.gq_workers.proofs.candidate.outcome_of.Goals as goal

pub slice_bounds-row-end : goal.slice_bounds-row-end
slice_bounds-row-end c = let a = c.bind-count.ensures.len in let f = c.bind-count.ensures.few in omega (arith, a, f)

pub slice_bounds-outcome_under-end : goal.slice_bounds-outcome_under-end
slice_bounds-outcome_under-end c = let a = c.bind-count.ensures.len in let f = c.bind-count.ensures.few in let l = length-take c.bind-count.result c.bind-count.new.row in omega (arith, a, f, l)

pub returns : goal.returns
returns c = under_own gregorian c.args.over.now c.args.block.now c.args.ends.now c.args.edge c.args.candidate.now (map alias_of (take c.bind-count.result c.bind-count.new.row)) c.outcome_under.result c.args.into.now c.outcome_under.new.into
    c.bind-count.ensures.bound c.outcome_under.ensures
