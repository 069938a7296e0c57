use Rattle.std.proofs.Common.{Err, sym, ap}
use Rattle.gq_stmt_read.specs.declared.fault.ScriptFault.TheVariants.{TooDeep}
use Rattle.gq_stmt_read.proofs.StepLemmas.{some_inj, none_some, known, is_script, only_script, no_fault, only_fault, no_script, deep_only}
use Rattle.gq_stmt_read.proofs.script.read_script.Goals as goal

pub returns-in-Some-clause-too_deep : goal.returns-in-Some-clause-too_deep
returns-in-Some-clause-too_deep c = λ at deep. ap (λ n. Err (TooDeep n)) (some_inj (c.in-Some.ensures.only at deep))

pub returns-in-Some-clause-only_fault : goal.returns-in-Some-clause-only_fault
returns-in-Some-clause-only_fault c = λ ne other h.
    deep_only c.args.bytes.now c.args.tokens.now c.in-Some.at c.in-Some.ensures.only (λ s. none_some (sym (c.in-Some.ensures.not_shallow s))) other h

pub returns-in-Some-clause-no_script : goal.returns-in-Some-clause-no_script
returns-in-Some-clause-no_script c = λ ne statements s. none_some (sym (c.in-Some.ensures.not_shallow s.0))

pub returns-in-None-clause-script : goal.returns-in-None-clause-script
returns-in-None-clause-script c =
    is_script (λ v. v.items) known c.args.bytes.now c.args.tokens.now c.statements.result c.in-None.ensures.none c.statements.ensures.script

pub returns-in-None-clause-only : goal.returns-in-None-clause-only
returns-in-None-clause-only c = only_script (λ v. v.items) known c.args.bytes.now c.args.tokens.now c.statements.result c.statements.ensures.script

pub returns-in-None-clause-no_fault : goal.returns-in-None-clause-no_fault
returns-in-None-clause-no_fault c =
    no_fault (λ v. v.items) known c.args.bytes.now c.args.tokens.now (λ place deep. none_some (c.in-None.ensures.only place deep)) c.statements.result
    c.statements.ensures.script

pub returns-in-None-clause-only_fault : goal.returns-in-None-clause-only_fault
returns-in-None-clause-only_fault c =
    only_fault (λ v. v.items) known c.args.bytes.now c.args.tokens.now (λ place deep. none_some (c.in-None.ensures.only place deep)) c.statements.result
    c.statements.ensures.fault

pub returns-in-None-clause-no_script : goal.returns-in-None-clause-no_script
returns-in-None-clause-no_script c =
    no_script (λ v. v.items) known c.args.bytes.now c.args.tokens.now c.statements.result c.statements.ensures.fault

pub returns-in-None-clause-too_deep : goal.returns-in-None-clause-too_deep
returns-in-None-clause-too_deep c = λ at deep. absurd (none_some (c.in-None.ensures.only at deep))
