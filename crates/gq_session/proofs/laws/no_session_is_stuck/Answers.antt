use Rattle.gq_session.proofs.SafeLemmas.{opening_law, next_law, run_law, interpret_law}
use Rattle.gq_session.proofs.laws.no_session_is_stuck.Goals as goal

pub returns-clause-first : goal.returns-clause-first
returns-clause-first c = opening_law

pub returns-clause-next : goal.returns-clause-next
returns-clause-next c = next_law

pub returns-clause-run : goal.returns-clause-run
returns-clause-run c = run_law

pub returns-clause-interpret : goal.returns-clause-interpret
returns-clause-interpret c = interpret_law
