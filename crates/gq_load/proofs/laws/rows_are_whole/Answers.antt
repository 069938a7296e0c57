use Rattle.gq_load.specs.KeepingLaws.{attributes_there, rows_join}
use Rattle.gq_load.proofs.laws.rows_are_whole.Goals as goal

pub returns-clause-attributes : goal.returns-clause-attributes
returns-clause-attributes c = attributes_there

pub returns-clause-ends : goal.returns-clause-ends
returns-clause-ends c = rows_join
