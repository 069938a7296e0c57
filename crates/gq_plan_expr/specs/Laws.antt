-- Laws: the properties of the expression of a plan.
use Rattle.std.specs.Prelude.{◌≡◌, true, Some, Ok}
use Rattle.gq_tree.specs.Tree.{Tree}
use Rattle.gq_rules_typing.specs.Statements.{Bytes}
use Rattle.gq_rules_typing.specs.Words.{Setting}
use Rattle.gq_rules_typing.specs.Judging.{Typed}
use Rattle.gq_rules_typing.specs.ExpressionTypes.{Names, typing}
use Rattle.gq_plan_ir.specs.declared.expr.Expr.{Expr}
use Rattle.gq_plan_ir.specs.Reference.{Reference}
use Rattle.gq_plan_ir.specs.ExprView.{view}
use Rattle.gq_plan_ir.specs.Renamed.{renamed}
use Rattle.gq_plan_ir.specs.Settled.{is_settled}
use Rattle.gq_plan_expr.specs.Known.{Known, references, IsRight, KnowsAll}
use Rattle.gq_plan_expr.specs.Resolved.{resolved}

-- it is the query's expression with references in place of names, so it has the same meaning
abbrev pub PlanLaw : Type 0
PlanLaw = (k : Known) (t : Tree Bytes) (e : Expr) → resolved k t ≡ Some e → view e ≡ renamed (references k) t

-- its precomputed data is consistent, if the results of name resolution are
abbrev pub SettledLaw : Type 0
SettledLaw = (setting : Setting Reference) (k : Known) → IsRight setting k → (t : Tree Bytes) (e : Expr) → resolved k t ≡ Some e → is_settled setting e ≡ true

-- a well typed expression has a plan, if all names that it may use are found
abbrev pub TypedLaw : Type 0
TypedLaw = (names : Names Bytes) (k : Known) → KnowsAll names k → (t : Tree Bytes) (ty : Typed) → typing names t ≡ Ok ty → (e : Expr) × (resolved k t ≡ Some e)
