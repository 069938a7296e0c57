use Rattle.std.proofs.lemmas.Int.{to_z-of_z}
use Rattle.std.specs.Int.{w64}
use Rattle.std.specs.Int.RustNames.{FitsSigned}
use Rattle.std.proofs.Common.{rules, sym, ap, ◌∙◌, Ok}
use Rattle.gq_value.specs.Val.{Int}
use Rattle.gq_value.specs.ViewLaws.{val-Int}
use Rattle.gq_rules_meaning.specs.Meanings.{numbered}
use Rattle.gq_eval_operand.specs.Meant.{valued}
use Rattle.gq_rules_typing.specs.Builtins.{part_is}
use Rattle.gq_eval_builtins.proofs.TimeLemmas.{part_told}
use Rattle.gq_eval_builtins.proofs.times.part_of.Goals as goal

pub returns : goal.returns
returns c =
    let f : FitsSigned w64 c.in_ok-x.x = search rules in
    let x = to_z-of_z w64 c.in_ok-x.x f in
    let g : FitsSigned w64 c.part_in-x.result = search rules in
    part_told (valued c.args.operand.now) (part_is c.args.part) c.in_ok-x.x c.parts.result (Ok c.numbered.result) c.in_ok-x.ensures.told c.in_ok-x.ensures.range (rw x at c.parts.ensures.only)
    (ap numbered (ap Int (sym c.part_in-x.ensures) ∙ sym (val-Int c.part_in-x.result)) ∙ rw (to_z-of_z w64 c.part_in-x.result g) at c.numbered.ensures)
