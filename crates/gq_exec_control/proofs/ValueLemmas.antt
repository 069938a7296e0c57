-- ValueLemmas: the value of an expression, converted.
use Rattle.std.proofs.Common.{◌≡◌, ap, sym, ◌∙◌}
use Rattle.gq_tree.specs.Tree.{Tree}
use Rattle.gq_value.specs.declared.value.Value.{Value}
use Rattle.gq_value.specs.Accums.{Base}
use Rattle.gq_value.specs.Val.{Val}
use Rattle.gq_value.specs.Views.{val}
use Rattle.gq_rules_meaning.specs.Answers.{Gives, ◌>>=◌}
use Rattle.gq_rules_meaning.specs.Expressions.{Look, value_of, value_as}
use Rattle.gq_rules_meaning.specs.Meanings.{converted_to}
use Rattle.gq_eval_operand.specs.declared.halt.Halt.{Halt}
use Rattle.gq_eval_operand.specs.Meant.{Halts}
use Rattle.gq_exec_control.proofs.Steps.{halts_bind, halts_same}

module _ {N : Type 0} (look : Look N) (b : Base) (t : Tree N) where
  pub value_stops : (h : Halt) → Halts (value_of look t) h → Halts (value_as look b t) h
  value_stops h e = halts_bind (value_of look t) (converted_to b) h e

  pub value_converts : (v : Val) (h : Halt) → value_of look t ≡ Gives v → Halts (converted_to b v) h → Halts (value_as look b t) h
  value_converts v h is e = halts_same (value_as look b t) (converted_to b v) h (ap (λ o. o >>= converted_to b) is) e

  pub value_goes : (v u : Val) (x : Value) → value_of look t ≡ Gives v → converted_to b v ≡ Gives u → val x ≡ u → value_as look b t ≡ Gives (val x)
  value_goes v u x is e same = ap (λ o. o >>= converted_to b) is ∙ e ∙ ap Gives (sym same)

pub ruleset value_laws = (value_stops, value_converts, value_goes)
