-- Heading: the declarations so far, as the code stores them.
use Rattle.std.specs.Prelude.{◌≡◌, false, is_some, Option, Some}
use Rattle.gq_scope.specs.Named.{Named}
use Rattle.gq_rules_typing.specs.Statements.{Bytes, BaseTree}
use Rattle.gq_rules_typing.specs.Sorts.{Sorts}
use Rattle.gq_rules_typing.specs.Scopes.{entry}
use Rattle.gq_scope.specs.Kept.{tuple_types}
use Rattle.gq_scope.specs.Held.{Held, sorts_in, scope_in}
use Rattle.gq_plan_ir.specs.declared.plan.Declared.{Declared}
use Rattle.gq_plan_expr.specs.Resolved.{◌>>=◌}
use Rattle.gq_plan_expr.specs.Globals.{Globals}
use Rattle.gq_plan_stmt.specs.Parts.{resolved_base}
use Rattle.gq_plan_expr.specs.Found.{TupleTypes}
use Rattle.gq_plan_laws.specs.Planned.{Heads}
use Rattle.gq_plan_laws.specs.Declares.{tuple_names, is_taken}

abbrev pub heads_of : TupleTypes → Named → Heads
heads_of tuples slots = record { tuples = tuples; slots = slots }

-- the scope has these types of the graph, and these tuple types, and no other name is visible
pub record IsScoped (sorts : Sorts) (tuples : TupleTypes) (s : Held) : Type 0 where
  pub sorts_are : sorts_in s ≡ sorts
  pub tuples_are : tuple_types s.names ≡ tuples
  pub free : (x : Bytes) → is_taken (tuple_names tuples) x ≡ false → is_some (entry (scope_in s) x) ≡ false

-- a field as the plan stores it
abbrev pub resolved_field : Globals → BaseTree Bytes × Bytes → Option (Declared × Bytes)
resolved_field g f = resolved_base g f.0 >>= λ b. Some (b, f.1)
