use Rattle.gq_nest.proofs.TellSteps.{tells_scalar}
use Rattle.gq_nest.proofs.ReadSteps.{fits_scalar}
use Rattle.gq_nest.proofs.content.Content.value.Goals as goal

pub unreachable-requires : goal.unreachable-requires
unreachable-requires c = fits_scalar _ _ c.in-Scalar.is c.requires c.in-Err.ensures

pub returns : goal.returns
returns c = tells_scalar _ _ _ _ c.in-Scalar.is c.in-Ok.ensures.1
