use Rattle.std.proofs.Common.{rules, ap, ◌∙◌}
use Rattle.std.specs.Int.{w64}
use Rattle.std.proofs.lemmas.Int.{to_z-of_z}
use Rattle.gq_value.specs.declared.value.Value.TheVariants as value
use Rattle.gq_exec_contribute.specs.Asked.{found_in}
use Rattle.gq_exec_contribute.proofs.AskedLemmas.{entry_there}
use Rattle.gq_exec_contribute.proofs.asked.entry.Goals as goal

pub returns-in-Map : goal.returns-in-Map
returns-in-Map c = entry_there _ _ _ c.args.key c.looked_up.result c.in-Map.is (c.looked_up.ensures ∙ ap (λ x. found_in (value.Int x) c.in-Map.entries.entries) (to_z-of_z w64 c.args.key (search rules)))
