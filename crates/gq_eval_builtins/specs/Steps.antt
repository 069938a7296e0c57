-- Steps: parts of the meaning of an expression, in the steps of the code.
use Rattle.std.specs.Prelude.{◌≡◌, Bool, List, [], ◌∷◌, Option, None}
use Rattle.std.specs.Borrow.{Bor}
use Rattle.std.specs.Option.{option_map}
use Rattle.gq_tree.specs.Tree.{Tree, Trees}
use Rattle.gq_tree.specs.declared.expr.MulSign.{MulSign}
use Rattle.gq_tree.specs.declared.expr.AddSign.{AddSign}
use Rattle.gq_value.specs.declared.value.Wrong.{Wrong}
use Rattle.gq_value.specs.declared.kind.Number.TheVariants as number
use Rattle.gq_value.specs.Val.{Val, Truth}
use Rattle.gq_rules_typing.specs.Words.{Function, DatetimeDiff, DatetimeAdd}
use Rattle.gq_plan_ir.specs.Reference.{Reference, Calls}
use Rattle.gq_rules_meaning.specs.Calls.{function_wants}
use Rattle.gq_eval_operand.specs.Meant.{number_to}
use Rattle.gq_eval_operand.specs.Sound.{IsOwn}
use Rattle.gq_value.specs.Accums.{Base, BOOL}
use Rattle.gq_value.specs.AccumViews.{base_of}
use Rattle.gq_value.specs.declared.kind.BaseType.{BaseType}
use Rattle.gq_rules_meaning.specs.Answers.{Answer, Stuck, ◌>>=◌}
use Rattle.gq_rules_meaning.specs.Meanings.{Meant, Is, Outcome, value_of_meant}
use Rattle.gq_rules_meaning.specs.Expressions.{Look, meaning, arguments, value_of, wanted, product, summed}
use Rattle.gq_eval_builtins.specs.declared.call.Arity.{Arity}
use Rattle.gq_eval_builtins.specs.declared.call.Arity.TheVariants as arity

abbrev pub true_meant : Bool → Meant
true_meant b = Is BOOL (Truth b)

-- one more factor, and one more term
abbrev pub times_meaning : {N : Type 0} → Look N → Meant → MulSign → Tree N → Outcome
times_meaning look m sign t = value_of_meant m >>= λ v. meaning look t >>= value_of_meant >>= product sign v

abbrev pub plus_meaning : {N : Type 0} → Look N → Meant → AddSign → Tree N → Outcome
plus_meaning look m sign t = value_of_meant m >>= λ v. meaning look t >>= value_of_meant >>= summed sign v

-- a number as an INT
abbrev pub int_value : {N : Type 0} → Look N → Tree N → Answer Wrong Val
int_value look t = value_of look t >>= number_to number.Int

-- one of the language's own functions that takes one argument, unconverted
pub record IsSingle (f : Reference) (g : Function) : Type 0 where
  pub own : IsOwn g
  pub wants : function_wants g ≡ None ∷ []
  pub calls : f ≡ Calls g

-- a function takes as many arguments; only one takes two, and only one three
abbrev pub Takes : Function → Arity → Type 0
Takes g arity.One = IsSingle (Calls g) g
Takes g arity.Two = g ≡ DatetimeDiff
Takes g arity.Three = g ≡ DatetimeAdd

-- a call that has no result, whatever its arguments are: they are evaluated, so the first fault counts
abbrev pub spoiled : {N : Type 0} → Look N → List (Option Base) → Trees N → Outcome
spoiled look wants ts = arguments look wants ts >>= λ vs. Stuck

-- a type to which an argument is converted, if there is one
abbrev pub want_is : Option (Bor BaseType) → Option Base
want_is want = option_map (λ b. base_of b.now) want

-- the value of an argument, converted
abbrev pub wanted_value : {N : Type 0} → Look N → Option Base → Tree N → Answer Wrong Val
wanted_value look want t = value_of look t >>= wanted want
