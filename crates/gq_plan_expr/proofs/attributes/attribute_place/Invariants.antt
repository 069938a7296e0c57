use Rattle.std.proofs.Common.{◌≡◌, drop}
use Rattle.std.specs.Str.{bytes_eq}
use Rattle.std.specs.List.{position_from}
use Rattle.gq_rules_typing.specs.Sorts.{names_of, attribute_fields}
use Rattle.gq_rules_typing.specs.Words.{place_of}
use Rattle.gq_plan_expr.proofs.attributes.attribute_place.Given as goal

abbrev pub invariant-loop-place : goal.invariant-loop-place
invariant-loop-place l = place_of (names_of (attribute_fields l.attributes)) l.name ≡ position_from (bytes_eq l.name) l.place (names_of (attribute_fields (drop l.place l.attributes)))
