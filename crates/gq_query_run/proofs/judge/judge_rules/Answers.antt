use Rattle.gq_query_run.proofs.judge.judge_rules.Goals as goal

pub returns-in-Err : goal.returns-in-Err
returns-in-Err c = c.statement_fault.ensures _ c.in-Err.ensures
