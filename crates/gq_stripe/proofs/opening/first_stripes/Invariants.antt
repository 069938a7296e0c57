use Rattle.std.proofs.Common.{ℕ, List}
use Rattle.gq_nest.specs.declared.content.Content.{Content}
use Rattle.gq_stripe.proofs.OpenLemmas.{AreOpenTo, AreTakenTo}
use Rattle.gq_stripe.specs.Opening.{AreRows}
use Rattle.gq_stripe.proofs.opening.first_stripes.Given as goal

abbrev pub invariant-loop-stripe : goal.invariant-loop-stripe
invariant-loop-stripe l = (first : List (List Content)) × AreRows l.layout l.stripes first × AreTakenTo first l.rows.items l.stripe × AreOpenTo l.layout l.stripes l.stripe l.slots.items
