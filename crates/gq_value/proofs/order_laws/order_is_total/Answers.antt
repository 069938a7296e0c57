use Rattle.gq_value.specs.OrderLaws.{compare_total}
use Rattle.gq_value.proofs.order_laws.order_is_total.Goals as goal

pub returns : goal.returns
returns c = compare_total
