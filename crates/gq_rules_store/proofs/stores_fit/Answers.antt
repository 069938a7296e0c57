use Rattle.gq_rules_store.proofs.StoreFits.{store_law}
use Rattle.gq_rules_store.proofs.stores_fit.Goals as goal

pub returns : goal.returns
returns c = store_law
