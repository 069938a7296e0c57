use Rattle.gq_driver.proofs.MeaningLemmas.{HasOneScript, some_outcome, one_outcome}
use Rattle.gq_driver.proofs.laws.one_outcome.Goals as goal

pub returns-clause-exists : goal.returns-clause-exists
returns-clause-exists c = some_outcome

pub returns-clause-unique : goal.returns-clause-unique
returns-clause-unique c =
    let scripts = c.one_script.ensures in
    let only : HasOneScript = record { one = scripts.one; one_fault = scripts.one_fault; apart = scripts.apart } in
    one_outcome only
