-- Taking: how one value is taken as an input: converted to a number of a type, or as it is.
use Rattle.std.specs.Prelude.{◌≡◌, Option, Some, None}
use Rattle.gq_value.specs.declared.value.Wrong.{Wrong}
use Rattle.gq_value.specs.Val.{Val}
use Rattle.gq_value.specs.Accums.{Base}
use Rattle.gq_rules_meaning.specs.Answers.{Answer, Gives}
use Rattle.gq_rules_meaning.specs.Meanings.{converted_to}
use Rattle.gq_eval_operand.specs.Meant.{number_to}
use Rattle.gq_exec_contribute.specs.declared.kinds.Taking.{Taking}
use Rattle.gq_exec_contribute.specs.declared.kinds.Taking.TheVariants as taking

abbrev pub taken : Taking → Val → Answer Wrong Val
taken (taking.Number t) v = number_to t v
taken taking.Itself v = Gives v

-- this is how values are converted to a type
pub record TakesBase (b : Base) (t : Taking) : Type 0 where
  pub each : (v : Val) → converted_to b v ≡ taken t v

-- this is how an input of one value is converted, if the kind takes one value
abbrev pub TakesAs : Option Base → Option Taking → Type 0
TakesAs None None = Unit {0}
TakesAs (Some b) (Some t) = TakesBase b t
TakesAs _ _ = ⊥
