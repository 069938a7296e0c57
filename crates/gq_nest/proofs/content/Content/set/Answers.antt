use Rattle.std.proofs.Common.{refl}
use Rattle.gq_nest.proofs.LevelLemmas.{opened-Scalar}
use Rattle.gq_nest.proofs.ReadSteps.{set_shows}
use Rattle.gq_nest.proofs.content.Content.set.Goals as goal

pub returns : goal.returns
returns c = rw (c.in-Scalar.is, opened-Scalar c.in-Scalar.scalar) (set_shows _ _ _ _ _ refl refl (rw c.in-Scalar.is at c.requires) (rw c.in-Scalar.scalar-is at c.set.ensures.kept) (rw c.in-Scalar.scalar-is at c.set.ensures.set))
