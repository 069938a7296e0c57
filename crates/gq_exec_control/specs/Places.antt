-- Places: the content of a place, as the code has found it.
use Rattle.std.specs.Prelude.{◌≡◌, Bool, true, false, Option, Some}
use Rattle.gq_value.specs.Val.{Val}
use Rattle.gq_value.specs.Accums.{Base}
use Rattle.gq_rules_meaning.specs.States.{Thing, Variable}

abbrev pub is_variable : Option Thing → Bool
is_variable (Some (Variable b v)) = true
is_variable o = false

-- a variable of this type is in view
pub record IsVariable (b : Base) (o : Option Thing) : Type 0 where
  pub value : Val
  pub is : o ≡ Some (Variable b value)
