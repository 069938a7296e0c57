use Rattle.gq_value.proofs.AgreeLemmas.{orders_agree}
use Rattle.gq_value.proofs.order_laws.orders_agree.Goals as goal

pub returns : goal.returns
returns c = orders_agree
