use Rattle.gq_rules_store.proofs.RecordFits.{record_law, insert_law, put_law}
use Rattle.gq_rules_store.proofs.puts_fit.Goals as goal

pub returns-clause-by_records : goal.returns-clause-by_records
returns-clause-by_records c = record_law

pub returns-clause-by_insert : goal.returns-clause-by_insert
returns-clause-by_insert c = insert_law

pub returns-clause-stored : goal.returns-clause-stored
returns-clause-stored c = put_law
