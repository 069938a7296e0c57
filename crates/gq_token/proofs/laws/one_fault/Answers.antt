use Rattle.gq_token.proofs.CutLemmas.{tokens_unique}
use Rattle.gq_token.proofs.LawLemmas.{one_fault_at_most, no_fault_beside}
use Rattle.gq_token.proofs.laws.one_fault.Goals as goal

pub returns-clause-one : goal.returns-clause-one
returns-clause-one c = one_fault_at_most

pub returns-clause-apart : goal.returns-clause-apart
returns-clause-apart c = no_fault_beside

pub returns-clause-one_cut : goal.returns-clause-one_cut
returns-clause-one_cut c = tokens_unique
