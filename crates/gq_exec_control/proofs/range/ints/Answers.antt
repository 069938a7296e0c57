use Rattle.std.proofs.Common.{rules, FitsSigned, w64}
use Rattle.std.proofs.lemmas.Int.{to_z-of_z}
use Rattle.gq_eval_operand.specs.Meant.{valued}
use Rattle.gq_exec_control.proofs.RangeLemmas.{ints_go}
use Rattle.gq_exec_control.proofs.range.ints.Goals as goal

pub returns : goal.returns
returns c =
    let f : FitsSigned w64 c.in_ok-first.first = search rules in
    let l : FitsSigned w64 c.in_ok-last.last = search rules in
    rw (to_z-of_z w64 c.in_ok-first.first f, to_z-of_z w64 c.in_ok-last.last l)
    (ints_go (valued c.args.first.now) (valued c.args.last.now) c.in_ok-first.first c.in_ok-last.last c.in_ok-first.ensures c.in_ok-last.ensures)
