use Rattle.std.proofs.Common.{◌≡◌, drop, map}
use Rattle.std.specs.Str.{bytes_eq}
use Rattle.std.specs.List.{position_from}
use Rattle.gq_rules_typing.specs.Words.{place_of}
use Rattle.gq_scope.proofs.fields.field_place.Given as goal

abbrev pub invariant-loop-place : goal.invariant-loop-place
invariant-loop-place l = place_of (map (λ f. f.0) l.fields) l.name ≡ position_from (bytes_eq l.name) l.place (map (λ f. f.0) (drop l.place l.fields))
