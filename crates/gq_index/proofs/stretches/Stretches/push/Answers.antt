use Rattle.std.proofs.Common.{rules, refl}
use Rattle.gq_index.proofs.StretchLemmas.{pushed}
use Rattle.gq_index.proofs.stretches.Stretches.push.Goals as goal

pub invariant_of-self-2 : goal.invariant_of-self-2
invariant_of-self-2 c =
    rw c.in_ok-push.ensures.items (pushed c.self.inside.stretches.items _ c.self.inside.count c.args.self.now c.self.invariant c.self.view_is refl (search rules) c.requires)
