use Rattle.std.proofs.lemmas.Int.{to_z-of_z}
use Rattle.std.specs.Int.{w64}
use Rattle.std.specs.Int.RustNames.{FitsSigned}
use Rattle.std.proofs.Common.{rules, sym, ap, ◌∙◌, Ok}
use Rattle.gq_value.specs.ViewLaws.{val-Int}
use Rattle.gq_rules_meaning.specs.Meanings.{numbered}
use Rattle.gq_eval_operand.specs.Meant.{valued}
use Rattle.gq_eval_builtins.proofs.TimeLemmas.{epoch_told}
use Rattle.gq_eval_builtins.proofs.times.datetime_to_epoch.Goals as goal

pub returns : goal.returns
returns c =
    let f : FitsSigned w64 c.in_ok-x.x = search rules in
    epoch_told (valued c.args.operand.now) c.in_ok-x.x (Ok c.numbered.result) c.in_ok-x.ensures.told
    (ap numbered (sym (val-Int c.in_ok-x.x)) ∙ rw (to_z-of_z w64 c.in_ok-x.x f) at c.numbered.ensures)
