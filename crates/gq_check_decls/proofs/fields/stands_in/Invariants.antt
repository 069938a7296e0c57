use Rattle.std.proofs.Common.{◌≡◌, drop, map}
use Rattle.gq_rules_typing.specs.KindTypes.{stands_in}
use Rattle.gq_check_decls.proofs.fields.stands_in.Given as goal

abbrev pub invariant-loop-one : goal.invariant-loop-one
invariant-loop-one g l = stands_in (map (λ f. f.0) l.named) l.name ≡ stands_in (map (λ f. f.0) (drop l.one-index l.named)) l.name
