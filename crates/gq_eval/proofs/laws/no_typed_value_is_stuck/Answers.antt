use Rattle.gq_eval.proofs.TypedLemmas.{value_there}
use Rattle.gq_eval.proofs.laws.no_typed_value_is_stuck.Goals as goal

pub returns : goal.returns
returns c = value_there
