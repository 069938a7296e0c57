use Rattle.std.proofs.Common.{refl}
use Rattle.gq_query_run.proofs.AnswerLemmas.{line_is}
use Rattle.gq_query_run.proofs.line.line_of.Goals as goal

pub returns-in-Ok : goal.returns-in-Ok
returns-in-Ok c objects same = (objects, refl, line_is c.in-Ok.line.items c.args.printed.now objects c.in-Ok.ensures same)
