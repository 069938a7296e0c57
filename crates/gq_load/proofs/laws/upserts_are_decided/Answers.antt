use Rattle.gq_load.specs.PutLaws.{put_done, put_refused}
use Rattle.gq_load.proofs.laws.upserts_are_decided.Goals as goal

pub returns-clause-taken : goal.returns-clause-taken
returns-clause-taken c = put_done

pub returns-clause-refused : goal.returns-clause-refused
returns-clause-refused c = put_refused
