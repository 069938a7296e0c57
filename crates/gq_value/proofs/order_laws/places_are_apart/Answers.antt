use Rattle.gq_value.specs.OrderLaws.{place_total, place_same}
use Rattle.gq_value.proofs.order_laws.places_are_apart.Goals as goal

pub returns-clause-total : goal.returns-clause-total
returns-clause-total c = place_total

pub returns-clause-same : goal.returns-clause-same
returns-clause-same c = place_same
