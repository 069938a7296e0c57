use Rattle.gq_session.specs.StatementLaws.{does_one}
use Rattle.gq_session.proofs.laws.statements_do_one_thing.Goals as goal

pub returns : goal.returns
returns c = does_one
