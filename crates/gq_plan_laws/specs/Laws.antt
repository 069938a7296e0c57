-- Laws: well-typed statements have a plan.
use Rattle.std.specs.Prelude.{◌≡◌, List, Some, Ok}
use Rattle.gq_scope.specs.Named.{Named}
use Rattle.gq_rules_typing.specs.Statements.{Bytes, Stmts}
use Rattle.gq_rules_typing.specs.Scopes.{Scope}
use Rattle.gq_rules_typing.specs.StatementTypes.{typing_stmts}
use Rattle.gq_plan_ir.specs.declared.step.Step.{Step}
use Rattle.gq_plan_expr.specs.Globals.{Globals}
use Rattle.gq_plan_stmt.specs.Steps.{resolved_stmts}
use Rattle.gq_plan_laws.specs.Shown.{Shows}

-- the statements of the plan, with the names in view after them
pub record Planned (g : Globals) (n : Named) (body : Stmts Bytes) (t : Scope Bytes) : Type 0 where
  pub behind : Named
  pub steps : List Step
  pub is : resolved_stmts g n body ≡ Some (behind, steps)
  pub shows : Shows g t behind

abbrev pub StatementsLaw : Type 0
StatementsLaw = (g : Globals) (s : Scope Bytes) (n : Named) → Shows g s n → (body : Stmts Bytes) (t : Scope Bytes) → typing_stmts s body ≡ Ok t → Planned g n body t
