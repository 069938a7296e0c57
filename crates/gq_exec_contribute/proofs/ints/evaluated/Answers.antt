use Rattle.std.proofs.Common.{map, take, arith}
use Rattle.std.proofs.lemmas.List.{length-take}
use Rattle.gq_rules_calendar.specs.Gregorian.{gregorian}
use Rattle.gq_frame.specs.Names.{alias_of}
use Rattle.gq_plan_ir.specs.ExprView.{view}
use Rattle.gq_exec_contribute.proofs.ReadLemmas.{evaluated_own}
use Rattle.gq_exec_contribute.proofs.ints.evaluated.Goals as goal

pub slice_bounds-row-end : goal.slice_bounds-row-end
slice_bounds-row-end c = let a = c.bind-count.ensures.len in let f = c.bind-count.ensures.few in omega (arith, a, f)

pub slice_bounds-evaluated_under-end : goal.slice_bounds-evaluated_under-end
slice_bounds-evaluated_under-end c = let a = c.bind-count.ensures.len in let f = c.bind-count.ensures.few in let l = length-take c.bind-count.result c.bind-count.new.row in omega (arith, a, f, l)

pub returns : goal.returns
returns c = evaluated_own gregorian c.args.over.now c.args.leaves.now c.args.accums.now c.args.c.now (view c.args.expr.now) (map alias_of (take c.bind-count.result c.bind-count.new.row)) c.evaluated_under.result c.bind-count.ensures.bound c.evaluated_under.ensures
