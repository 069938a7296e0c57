use Rattle.std.proofs.Common.{◌≡◌, drop, map}
use Rattle.gq_rules_typing.specs.KindTypes.{sort_fields}
use Rattle.gq_type.proofs.ArgumentLemmas.{after}
use Rattle.gq_check_decls.proofs.sorting.sort_fields.Given as goal

abbrev pub invariant-loop-key : goal.invariant-loop-key
invariant-loop-key l = sort_fields l.name (map (λ f. f.0) l.fields) l.order ≡ after l.by (sort_fields l.name (map (λ f. f.0) l.fields) (drop l.key-index l.order))
