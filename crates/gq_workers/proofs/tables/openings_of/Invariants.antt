use Rattle.std.proofs.Common.{◌≡◌, ◌∷◌, replicate}
use Rattle.gq_words.specs.declared.fold.Op.TheVariants.{Min, Or}
use Rattle.gq_workers.proofs.tables.openings_of.Given as goal

abbrev pub invariant-loop : goal.invariant-loop
invariant-loop l = l.openings.items ≡ (Min, 18446744073709551615) ∷ replicate l.counter (Or, 0)
