use Rattle.std.proofs.Common.{take}
use Rattle.gq_stripe.specs.Runs.{kinds_in}
use Rattle.gq_stripe.proofs.OpenLemmas.{IsNext, kinds_to}
use Rattle.gq_stripe.proofs.opening.first_rows.Given as goal

abbrev pub invariant-loop-run : goal.invariant-loop-run
invariant-loop-run l = IsNext (kinds_in (take l.run-index l.run-items)) l.stripes l.stripe l.rows.items

abbrev pub invariant-loop : goal.invariant-loop
invariant-loop l = IsNext (kinds_to l.run-items l.run-index l.counter) l.stripes l.stripe l.rows.items
