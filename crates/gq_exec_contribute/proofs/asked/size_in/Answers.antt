use Rattle.std.proofs.Common.{rules}
use Rattle.gq_exec_contribute.proofs.AskedLemmas.{sized}
use Rattle.gq_exec_contribute.proofs.asked.size_in.Goals as goal

pub returns : goal.returns
returns c = sized c.args.content.now c.size.result c.within.result (c.is_collection.ensures (search rules)) c.size.ensures c.within.ensures
