use Rattle.gq_rules_store.proofs.UpsertFits.{upsert_law}
use Rattle.gq_rules_store.proofs.rows_stay_fit.Goals as goal

pub returns-clause-by_upserts : goal.returns-clause-by_upserts
returns-clause-by_upserts c = upsert_law
