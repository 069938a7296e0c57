-- Unplanned: when no plan can be made, since a rule of typing doesn't pass.
use Rattle.std.specs.Prelude.{◌≡◌, Bool, List, Option, Ok}
use Rattle.gq_tree.specs.Tree.{Tree}
use Rattle.gq_value.specs.Accums.{Accum}
use Rattle.gq_scope.specs.Named.{Named}
use Rattle.gq_rules_typing.specs.Statements.{Bytes, KindTree, Definition, Parameter, Query}
use Rattle.gq_rules_typing.specs.Sorts.{Sorts}
use Rattle.gq_rules_typing.specs.Judging.{Judged, through_judged}
use Rattle.gq_rules_typing.specs.Scopes.{Scope}
use Rattle.gq_rules_typing.specs.KindTypes.{kind_written}
use Rattle.gq_rules_typing.specs.QueryTypes.{typing_accum, typing_definition, typing_query}
use Rattle.gq_plan_ir.specs.declared.plan.Parameter as parameter_code
use Rattle.gq_plan_laws.specs.Planned.{Heads}
use Rattle.gq_plan_laws.specs.PlannedLaws.{ParametersPlanned}
use Rattle.gq_plan_laws.specs.Declares.{Declares}

-- a query that the typing rules refuse
pub record NotTyped (sorts : Sorts) (q : Query Bytes) : Type 0 where
  pub none : (t : Scope Bytes) → typing_query sorts q ≡ Ok t → ⊥

-- a rule that never succeeds
pub record Fails {A : Type 0} (j : Judged A) : Type 0 where
  pub none : (a : A) → j ≡ Ok a → ⊥

pub record NoParameters (sorts : Sorts) (ps : List (Parameter Bytes)) : Type 0 where
  pub none : (qs : List parameter_code.Parameter) (n : Named) → ParametersPlanned sorts ps qs n → ⊥

-- declarations that pass in no scope that shows those before them
module _ (sorts : Sorts) (n : Named) (h : Heads) where
  pub record NoAccum (a : Bool × Bytes × Option (Tree Bytes)) : Type 0 where
    pub none : (kind : Accum) (s t : Scope Bytes) → Declares sorts n h s → typing_accum kind s a ≡ Ok t → ⊥

  pub record NoAccums (accums : List (Bool × Bytes × Option (Tree Bytes))) : Type 0 where
    pub none : (kind : Accum) (s t : Scope Bytes) → Declares sorts n h s → through_judged (typing_accum kind) s accums ≡ Ok t → ⊥

  pub record NoDefinition (d : Definition Bytes (KindTree Bytes)) : Type 0 where
    pub none : (s t : Scope Bytes) → Declares sorts n h s → typing_definition kind_written s d ≡ Ok t → ⊥

  pub record NoDefinitions (ds : List (Definition Bytes (KindTree Bytes))) : Type 0 where
    pub none : (s t : Scope Bytes) → Declares sorts n h s → through_judged (typing_definition kind_written) s ds ≡ Ok t → ⊥
