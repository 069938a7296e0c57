use Rattle.gq_eval.proofs.TypedLemmas.{whole_there}
use Rattle.gq_eval.proofs.laws.no_typed_collection_is_stuck.Goals as goal

pub returns : goal.returns
returns c = whole_there
