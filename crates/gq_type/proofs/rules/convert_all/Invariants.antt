use Rattle.std.proofs.Common.{◌≡◌, map}
use Rattle.gq_scope.specs.Views.{types_are, base_is}
use Rattle.gq_type.proofs.RuleLemmas.{convert_rest}
use Rattle.gq_type.proofs.rules.convert_all.Given as goal

abbrev pub invariant-loop-place : goal.invariant-loop-place
invariant-loop-place l = convert_rest (map base_is l.from) (types_are l.to) l.place ≡ convert_rest (map base_is l.from) (types_are l.to) 0
