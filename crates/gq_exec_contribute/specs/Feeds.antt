-- Feeds: the meaning of an input, as the code evaluates it: each value is converted to the type that its kind takes.
use Rattle.std.specs.Prelude.{List, map}
use Rattle.gq_tree.specs.Tree.{Tree, Behind}
use Rattle.gq_value.specs.declared.kind.Input.{Input}
use Rattle.gq_value.specs.declared.value.Wrong.{Wrong}
use Rattle.gq_value.specs.Accums.{Accum, Given, One, Givens}
use Rattle.gq_value.specs.AccumViews.{given, givens}
use Rattle.gq_rules_typing.specs.Kinds.{input_type}
use Rattle.gq_rules_meaning.specs.Answers.{Answer, Gives, ◌>>=◌, found}
use Rattle.gq_rules_meaning.specs.Expressions.{Look, value_as, meaning_part}
use Rattle.gq_rules_meaning.specs.Meanings.{value_of_meant}
use Rattle.gq_value.specs.Val.{Val}

-- an input of one value, converted
abbrev pub one_input : {N : Type 0} → Look N → Accum → Tree N → Answer Wrong Given
one_input look k t = found (input_type k) >>= λ b. value_as look b t >>= λ v. Gives (One v)

abbrev pub inputs_shown : List Input → Givens
inputs_shown xs = givens (map given xs)

-- the value of a field of what a name is bound to
abbrev pub field_value : {N : Type 0} → Look N → N → N → Answer Wrong Val
field_value look n f = look.named n >>= λ m. look.field m f >>= value_of_meant

-- the value of a part after a name
abbrev pub part_value : {N : Type 0} → Look N → N → Behind N → Answer Wrong Val
part_value look n b = look.named n >>= λ m. meaning_part look m b >>= value_of_meant
