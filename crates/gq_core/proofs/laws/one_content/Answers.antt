use Rattle.gq_core.specs.Machine.{run, opening}
use Rattle.gq_core.proofs.OrderLemmas.{order_opening, order_run}
use Rattle.gq_core.proofs.ContentLemmas.{has_all}
use Rattle.gq_core.proofs.laws.one_content.Goals as goal

pub returns : goal.returns
returns c = λ job es done target. has_all job (run job (opening job) es) (order_run job (opening job) (order_opening job) es) done target
