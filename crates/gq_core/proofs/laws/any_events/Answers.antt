use Rattle.gq_core.specs.Machine.{run, opening}
use Rattle.gq_core.proofs.OrderLemmas.{order_opening, order_run}
use Rattle.gq_core.proofs.ShuffleLemmas.{put_once, is_shuffled, has_inputs}
use Rattle.gq_core.proofs.laws.any_events.Goals as goal

pub returns-clause-order : goal.returns-clause-order
returns-clause-order c = λ job es. order_run job (opening job) (order_opening job) es

pub returns-clause-once : goal.returns-clause-once
returns-clause-once c = λ job es done. put_once job (run job (opening job) es) (order_run job (opening job) (order_opening job) es) done

pub returns-clause-shuffled : goal.returns-clause-shuffled
returns-clause-shuffled c = λ job es done. is_shuffled job (run job (opening job) es) (order_run job (opening job) (order_opening job) es) done

pub returns-clause-contents : goal.returns-clause-contents
returns-clause-contents c = λ job es done. has_inputs job (run job (opening job) es) (order_run job (opening job) (order_opening job) es) done
