use Rattle.gq_parse_select.proofs.StageLemmas.{pair_beside}
use Rattle.gq_parse_select.proofs.stages.beside.Goals as goal

pub returns : goal.returns
returns g c = λ p q all at next f s. pair_beside p q all at next c.args.first c.args.second (c.in_ok-second.second, c.in_ok-second.at) c.in_ok-second.was f s
