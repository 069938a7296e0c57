use Rattle.std.proofs.Common.{◌≡◌, drop, map}
use Rattle.gq_scope.specs.Held.{setting_in}
use Rattle.gq_scope.specs.Views.{base_is}
use Rattle.gq_scope.specs.Parts.{type_field, chained}
use Rattle.gq_type.proofs.fields.all_have.Given as goal

abbrev pub invariant-loop-t : goal.invariant-loop-t
invariant-loop-t l =
    chained (base_is l.last) (map (type_field (setting_in l.scope) l.edges l.name) (drop l.t-index l.types))
    ≡ chained (base_is l.base) (map (type_field (setting_in l.scope) l.edges l.name) l.types)
