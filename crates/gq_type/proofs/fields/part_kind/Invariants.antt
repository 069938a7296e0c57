use Rattle.std.proofs.Common.{◌≡◌, drop, map}
use Rattle.gq_value.specs.AccumViews.{accum_of}
use Rattle.gq_scope.specs.Parts.{first_named}
use Rattle.gq_type.proofs.fields.part_kind.Given as goal

abbrev pub invariant-loop-part : goal.invariant-loop-part
invariant-loop-part l = first_named (map (λ p. (p.0, accum_of p.1)) (drop l.part-index l.parts)) l.name ≡ first_named (map (λ p. (p.0, accum_of p.1)) l.parts) l.name
