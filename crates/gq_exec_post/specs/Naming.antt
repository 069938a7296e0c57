-- Naming: when a statement or an expression of a plan names a place.
use Rattle.std.specs.Prelude.{ℕ, Bool, Some}
use Rattle.gq_rules_typing.specs.Patterns.{is_alias}
use Rattle.gq_plan_ir.specs.Reference.{Reference, Place}
use Rattle.gq_plan_ir.specs.References.{same}

-- whether a reference is this place
abbrev pub is_place : ℕ → Reference → Bool
is_place place = is_alias same (Some (Place place))
