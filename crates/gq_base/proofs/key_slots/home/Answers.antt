use Rattle.std.proofs.Common.{sym, ◌∙◌}
use Rattle.gq_base.specs.Keys.{number_of}
use Rattle.gq_base.proofs.KeySlotLemmas.{home_low, home_high}
use Rattle.gq_base.proofs.key_slots.home.Goals as goal

pub returns-then-slots-le-SPARE-clause-exact : goal.returns-then-slots-le-SPARE-clause-exact
returns-then-slots-le-SPARE-clause-exact c = sym (home_low (number_of c.args.key) c.args.slots c.if-slots-le-SPARE.true)

pub returns-else-slots-le-SPARE-clause-exact : goal.returns-else-slots-le-SPARE-clause-exact
returns-else-slots-le-SPARE-clause-exact c = c.bucket.ensures.exact ∙ sym (home_high (number_of c.args.key) c.args.slots c.if-slots-le-SPARE.false)
