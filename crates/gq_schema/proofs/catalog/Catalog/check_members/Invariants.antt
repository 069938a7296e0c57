use Rattle.std.proofs.Common.{◌≡◌, drop, not}
use Rattle.std.specs.List.{find}
use Rattle.gq_schema.specs.Members as spec
use Rattle.gq_schema.proofs.catalog.Catalog.check_members.Given as goal

abbrev pub invariant-loop-member : goal.invariant-loop-member
invariant-loop-member l =
    spec.misfit l.self l.members ≡ find (λ member. not (spec.fits l.self l.members member)) (drop l.member-index l.members)
