use Rattle.std.proofs.Common.{◌≡◌, drop}
use Rattle.std.specs.Str.{bytes_eq}
use Rattle.std.specs.Option.{option_copied}
use Rattle.gq_rules_typing.specs.Patterns.{is_alias}
use Rattle.gq_rules_typing.specs.Mentions.{in_inputs}
use Rattle.gq_check_select.specs.Trees.{view_inputs}
use Rattle.gq_check_select.proofs.mentions.+input_mentions.Given as goal

abbrev pub invariant-in_inputs-loop-input : goal.invariant-in_inputs-loop-input
invariant-in_inputs-loop-input l =
    let is = is_alias bytes_eq (option_copied l.alias) in in_inputs is (view_inputs l.inputs) ≡ in_inputs is (view_inputs (drop l.input-index l.inputs))
