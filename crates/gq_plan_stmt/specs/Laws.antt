-- Laws: the statements of a plan represent those of the query.
use Rattle.std.specs.Prelude.{◌≡◌, ◌<◌, List, ◌++◌, Some}
use Rattle.gq_scope.specs.declared.places.NameBinding.{NameBinding}
use Rattle.gq_scope.specs.Named.{Named}
use Rattle.gq_rules_typing.specs.Statements.{Bytes, Stmts}
use Rattle.gq_rules_typing.specs.Sorts.{Sorts}
use Rattle.gq_rules_meaning.specs.StateFits.{AllOf}
use Rattle.gq_plan_ir.specs.declared.step.Step.{Step}
use Rattle.gq_plan_ir.specs.PlanView.{view_steps}
use Rattle.gq_plan_ir.specs.StandsFor.{AllStand, behind_all}
use Rattle.gq_plan_expr.specs.Globals.{Globals}
use Rattle.gq_plan_stmt.specs.References.{view_of, fixed_in}
use Rattle.gq_plan_stmt.specs.Steps.{resolved_stmts}

-- places in view are below the next one
abbrev pub IsBounded : Named → Type 0
IsBounded n = AllOf (λ (e : Bytes × NameBinding). e.1.place < n.next) n.visible

-- names have come into view, and none was removed
pub record Grows (n m : Named) : Type 0 where
  pub more : List (Bytes × NameBinding)
  pub is : m.visible ≡ more ++ n.visible

pub record StepsStand (sorts : Sorts) (accums : List Bytes) (g : Globals) (n : Named) (body : Stmts Bytes) (m : Named) (steps : List Step) : Type 0 where
  pub stand : AllStand (fixed_in sorts accums g) (view_of n) body (view_steps steps)
  pub behind : behind_all (fixed_in sorts accums g) (view_of n) body (view_steps steps) ≡ view_of m
  pub bounded : IsBounded m

-- so, by the law of gq_plan_laws, they have the same effect
abbrev pub StepsLaw : Type 0
StepsLaw =
    (sorts : Sorts) (accums : List Bytes) (g : Globals) (n : Named) → IsBounded n → (body : Stmts Bytes) (m : Named) (steps : List Step) → resolved_stmts g n body ≡ Some (m, steps)
    → StepsStand sorts accums g n body m steps
