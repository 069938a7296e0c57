use Rattle.gq_index.proofs.CandidateLemmas.{flags_fit}
use Rattle.gq_index.proofs.marks.Marks.of.Goals as goal

pub invariant_of-result : goal.invariant_of-result
invariant_of-result c = flags_fit c.args.listed.now c.in_ok-flags.flags.items c.args.count c.in_ok-flags.ensures
