use Rattle.std.proofs.lemmas.Int.{to_z-of_z}
use Rattle.std.specs.Int.{w64}
use Rattle.std.specs.Int.RustNames.{FitsSigned}
use Rattle.std.specs.Prelude.{◌-ℤ◌}
use Rattle.std.proofs.Common.{rules, sym, ap, ◌∙◌, Ok}
use Rattle.gq_value.specs.ViewLaws.{val-Int}
use Rattle.gq_rules_meaning.specs.Meanings.{numbered}
use Rattle.gq_eval_operand.specs.Meant.{valued}
use Rattle.gq_eval_builtins.proofs.TimeLemmas.{diff_told}
use Rattle.gq_eval_builtins.proofs.times.datetime_diff.Goals as goal

pub returns : goal.returns
returns c =
    let f : FitsSigned w64 c.in_ok-x.x = search rules in
    let g : FitsSigned w64 c.in_ok-y.y = search rules in
    let x = to_z-of_z w64 c.in_ok-x.x f in
    let y = to_z-of_z w64 c.in_ok-y.y g in
    let h : FitsSigned w64 (c.in_ok-x.x -ℤ c.in_ok-y.y) = search rules in
    diff_told (valued c.args.left.now) (valued c.args.right.now) c.in_ok-x.x c.in_ok-y.y (Ok c.numbered.result) c.in_ok-x.ensures.told c.in_ok-y.ensures.told
    (ap numbered (sym (val-Int (c.in_ok-x.x -ℤ c.in_ok-y.y))) ∙ rw (x, y, to_z-of_z w64 (c.in_ok-x.x -ℤ c.in_ok-y.y) h) at c.numbered.ensures)
