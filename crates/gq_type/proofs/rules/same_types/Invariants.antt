use Rattle.std.proofs.Common.{◌≡◌}
use Rattle.gq_scope.specs.Views.{types_are}
use Rattle.gq_type.proofs.RuleLemmas.{same_rest}
use Rattle.gq_type.proofs.rules.same_types.Given as goal

abbrev pub invariant-loop-place : goal.invariant-loop-place
invariant-loop-place l = same_rest (types_are l.a) (types_are l.b) l.place ≡ same_rest (types_are l.a) (types_are l.b) 0
