use Rattle.gq_stmt_read.proofs.StepLemmas.{known}
use Rattle.gq_stmt_read.proofs.ScriptLemmas.{script_alike, fault_alike, script_apart}
use Rattle.gq_stmt_read.proofs.laws.one_script.Goals as goal

pub returns-clause-one : goal.returns-clause-one
returns-clause-one c = λ bytes tokens. script_alike bytes tokens known

pub returns-clause-one_fault : goal.returns-clause-one_fault
returns-clause-one_fault c = λ bytes tokens. fault_alike bytes tokens known

pub returns-clause-apart : goal.returns-clause-apart
returns-clause-apart c = λ bytes tokens. script_apart bytes tokens known
