-- ElseLemmas: the plan of ELSE, with and without statements.
use Rattle.std.proofs.Common.{◌≡◌, ◌<◌, ◌≤◌, List, [], ◌∷◌, length, arith, Option, Some, None, refl}
use Rattle.gq_tree.specs.declared.body.Stmt as code
use Rattle.gq_scope.specs.Named.{Named}
use Rattle.gq_rules_typing.specs.StatementViews.{view_stmts}
use Rattle.gq_plan_ir.specs.declared.step.Step.{Step}
use Rattle.gq_plan_expr.specs.Resolved.{◌>>=◌}
use Rattle.gq_plan_stmt.specs.Steps.{Behind, else_of}

pub else_full : (n : Named) (list : List code.Stmt) (o : Option (Behind (List Step))) → 0 < length list → else_of n (view_stmts list) o ≡ (o >>= λ b. Some (b.0, Some b.1))
else_full n [] o h = absurd (omega (arith, h))
else_full n (s ∷ list) o h = refl

pub else_empty : (n : Named) (list : List code.Stmt) (o : Option (Behind (List Step))) → length list ≤ 0 → else_of n (view_stmts list) o ≡ Some (n, None)
else_empty n [] o h = refl
else_empty n (s ∷ list) o h = absurd (omega (arith, h))
