use Rattle.gq_time.proofs.BackLemmas.{reads_back}
use Rattle.gq_time.proofs.OrderLemmas.{ordered}
use Rattle.gq_time.proofs.laws.written_texts.Goals as goal

pub returns-clause-read_back : goal.returns-clause-read_back
returns-clause-read_back c = reads_back

pub returns-clause-ordered : goal.returns-clause-ordered
returns-clause-ordered c = ordered
