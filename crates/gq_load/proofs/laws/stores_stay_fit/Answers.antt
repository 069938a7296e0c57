use Rattle.gq_load.specs.KeepingLaws.{empty_fits, begun_fits, growth_fits}
use Rattle.gq_load.proofs.laws.stores_stay_fit.Goals as goal

pub returns-clause-empty : goal.returns-clause-empty
returns-clause-empty c = empty_fits

pub returns-clause-by_upserts : goal.returns-clause-by_upserts
returns-clause-by_upserts c = begun_fits

pub returns-clause-by_growth : goal.returns-clause-by_growth
returns-clause-by_growth c = growth_fits
