use Rattle.gq_parse_select.proofs.StageLemmas.{no_pair, some_pair}
use Rattle.gq_parse_select.proofs.stages.paired.Goals as goal

pub returns-in-None : goal.returns-in-None
returns-in-None g c = λ p q all at next f s. no_pair p q all at next c.args.first c.args.second c.in_ok-second.field-0 c.in_ok-second.was c.in-None.is f s

pub returns-in-Some : goal.returns-in-Some
returns-in-Some g c = λ p q all at next f s. some_pair p q all at next c.args.first c.args.second c.in_ok-second.field-0 (c.in-Some.second, c.in-Some.at) c.in_ok-second.was c.in-Some.is f s
