-- MethodLemmas: methods with their arguments.
use Rattle.std.proofs.Common.{◌≡◌, ℕ, ◌<◌, List, [], ◌∷◌, length, arith, Option, Some, None, refl}
use Rattle.gq_tree.specs.declared.expr.Node.{Node}
use Rattle.gq_tree.specs.Tree.{Trees}
use Rattle.gq_tree.specs.View.{views}
use Rattle.gq_plan_ir.specs.declared.expr.Expr.{Expr}
use Rattle.gq_plan_ir.specs.declared.expr.Behind.TheVariants as behind
use Rattle.gq_plan_ir.specs.declared.expr.Method.{Method}
use Rattle.gq_plan_ir.specs.declared.expr.Method.TheVariants as method
use Rattle.gq_plan_ir.specs.ExprView.{method_of}
use Rattle.gq_plan_expr.specs.Known.{Known}
use Rattle.gq_plan_expr.specs.Resolved.{◌>>=◌, degree, called}

pub called_method : (k : Known) (ts : Trees (List ℕ)) (es : Option (List Expr)) (m : Method) → called k ts es (method_of m) ≡ (es >>= λ arguments. Some (behind.Method m arguments))
called_method k ts es method.Size = refl
called_method k ts es method.Contains = refl
called_method k ts es method.ContainsKey = refl
called_method k ts es method.Get = refl

-- `outdegree` with several arguments has no plan
pub degree_many : (k : Known) (nodes : List Node) → 1 < length nodes → degree k (views nodes) ≡ None
degree_many k [] h = absurd (omega (arith, h))
degree_many k (a ∷ []) h = absurd (omega (arith, h))
degree_many k (a ∷ b ∷ rest) h = refl

pub ruleset method_laws = (called_method)
