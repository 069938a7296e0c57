use Rattle.std.proofs.Common.{rules, ap, ◌∙◌}
use Rattle.std.specs.Int.{w64}
use Rattle.std.proofs.lemmas.Int.{to_z-of_z}
use Rattle.gq_value.specs.declared.value.Value.TheVariants as value
use Rattle.gq_exec_contribute.specs.Asked.{found_in}
use Rattle.gq_exec_contribute.proofs.AskedLemmas.{key_there, key_lacks}
use Rattle.gq_exec_contribute.proofs.asked.has_key.Goals as goal

pub returns-in-Some : goal.returns-in-Some
returns-in-Some c =
    key_there _ _ _ c.args.key c.looked_up.result c.in-Some.field-0 c.in-Map.is (search rules) (c.looked_up.ensures ∙ ap (λ x. found_in (value.Int x) c.in-Map.entries.entries) (to_z-of_z w64 c.args.key (search rules)))

pub returns-in-None : goal.returns-in-None
returns-in-None c = key_lacks _ _ _ c.args.key c.looked_up.result c.in-Map.is (search rules) (c.looked_up.ensures ∙ ap (λ x. found_in (value.Int x) c.in-Map.entries.entries) (to_z-of_z w64 c.args.key (search rules)))
