use Rattle.std.proofs.Common.{rules, ap, ◌∙◌}
use Rattle.std.specs.Int.{w64}
use Rattle.std.proofs.lemmas.Int.{to_z-of_z}
use Rattle.gq_value.specs.declared.value.Value.TheVariants as value
use Rattle.gq_exec_contribute.specs.Asked.{found_in}
use Rattle.gq_exec_contribute.proofs.asked.looked_up.Goals as goal

pub returns : goal.returns
returns c = c.get.ensures.value ∙ ap (λ x. found_in (value.Int x) c.args.entries.now.entries) (to_z-of_z w64 c.args.key (search rules))
