use Rattle.std.proofs.Common.{◌≡◌, drop, map}
use Rattle.gq_rules_typing.specs.KindTypes.{stands_in}
use Rattle.gq_plan.proofs.tuples.stands_in.Given as goal

abbrev pub invariant-loop-field : goal.invariant-loop-field
invariant-loop-field l = stands_in (map (λ f. f.0) l.fields) l.name ≡ stands_in (map (λ f. f.0) (drop l.field-index l.fields)) l.name
