use Rattle.std.proofs.Common.{◌≡◌, map, take}
use Rattle.gq_words.proofs.parts.first_words.Given as goal

abbrev pub invariant-loop-opening : goal.invariant-loop-opening
invariant-loop-opening l = l.words.items ≡ map (λ o. o.1) (take l.opening-index l.openings)
