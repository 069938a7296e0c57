-- Gathered: the contributions of a match so far. The code moves them into batches at the end, so a fault adds nothing.
use Rattle.std.specs.Global.{Vec}
use Rattle.std.specs.Prelude.{List, map, ◌++◌}
use Rattle.gq_value.specs.declared.value.Wrong.{Wrong}
use Rattle.gq_value.specs.AccumViews.{given}
use Rattle.gq_rules_meaning.specs.Answers.{Answer, Gives, ◌>>=◌}
use Rattle.gq_rules_meaning.specs.Blocks.{Contribution}
use Rattle.gq_exec_contribute.specs.declared.feeding.Feeding.{Feeding}

-- an input as a contribution
abbrev pub contribution_of : Feeding → Contribution
contribution_of f = record { slot = f.slot; vertex = f.vertex; input = given f.input }

abbrev pub shown : List Feeding → List Contribution
shown fs = map contribution_of fs

abbrev pub gathered_in : Vec Feeding → List Contribution
gathered_in v = shown v.items

-- earlier contributions, followed by these
abbrev pub after : List Contribution → Answer Wrong (List Contribution) → Answer Wrong (List Contribution)
after xs o = o >>= λ ys. Gives (xs ++ ys)
