-- FieldLemmas: names of fields, in order.
use Rattle.std.proofs.Common.{◌≡◌, List, [], ◌∷◌, ◌++◌, map}
use Rattle.std.proofs.lemmas.List.{map_push}
use Rattle.gq_value.specs.declared.kind.BaseType.{BaseType}
use Rattle.gq_value.specs.AccumViews.{base_of}
use Rattle.gq_rules_typing.specs.Statements.{Bytes}
use Rattle.gq_scope.specs.Held.{fields_of}

pub fields_more : (fs : List (Bytes × BaseType)) (name : Bytes) (b : BaseType) → fields_of (fs ++ (name, b) ∷ []) ≡ fields_of fs ++ (name, base_of b) ∷ []
fields_more fs name b = map_push (λ (f : Bytes × BaseType). (f.0, base_of f.1)) fs (name, b)

pub names_more : (fs : List (Bytes × BaseType)) (name : Bytes) (b : BaseType) → map (λ (f : Bytes × BaseType). f.0) (fs ++ (name, b) ∷ []) ≡ map (λ (f : Bytes × BaseType). f.0) fs ++ name ∷ []
names_more fs name b = map_push (λ (f : Bytes × BaseType). f.0) fs (name, b)

pub ruleset field_laws = (fields_more, names_more)
