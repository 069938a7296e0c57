-- Making: the effect of an evaluated change on a content.
use Rattle.std.specs.Prelude.{◌≡◌, Option, Some, None}
use Rattle.gq_value.specs.declared.value.Wrong.{Wrong}
use Rattle.gq_value.specs.Val.{Val}
use Rattle.gq_value.specs.Views.{val}
use Rattle.gq_value.specs.Accums.{Base}
use Rattle.gq_value.specs.AccumViews.{given}
use Rattle.gq_rules_meaning.specs.Answers.{Answer, Gives}
use Rattle.gq_rules_meaning.specs.Meanings.{converted_to}
use Rattle.gq_rules_meaning.specs.Writes.{Making, with_input, with_value}
use Rattle.gq_eval_operand.specs.Meant.{number_to}
use Rattle.gq_exec_post.specs.declared.making.Made.{Made}
use Rattle.gq_exec_post.specs.declared.making.Made.TheVariants as made
use Rattle.gq_exec_post.specs.declared.making.Putting.{Putting}
use Rattle.gq_exec_post.specs.declared.making.Putting.TheVariants as putting

abbrev pub making_of : Made → Making
making_of (made.Input x) = with_input (given x)
making_of (made.Value v) = with_value (val v)

-- ---- how a value is set

abbrev pub put_to : Putting → Val → Answer Wrong Val
put_to (putting.Number t) v = number_to t v
put_to putting.Truth v = Gives v

-- this is how values are converted to a type
pub record PutsBase (b : Base) (p : Putting) : Type 0 where
  pub each : (v : Val) → converted_to b v ≡ put_to p v

abbrev pub PutsAs : Option Base → Option Putting → Type 0
PutsAs None None = Unit {0}
PutsAs (Some b) (Some p) = PutsBase b p
PutsAs _ _ = ⊥
