use Rattle.std.proofs.Common.{◌≡◌, drop}
use Rattle.std.specs.Option.{option_or, option_copied}
use Rattle.gq_load_check.specs.Options.{option_text}
use Rattle.gq_load_check.proofs.options.option_text.Given as goal

abbrev pub invariant-loop-option : goal.invariant-loop-option
invariant-loop-option l =
    option_text l.name l.options ≡ option_or (option_text l.name (drop l.option-index l.options)) (option_copied l.found)
