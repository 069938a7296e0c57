use Rattle.gq_exec_contribute.proofs.WaitingLemmas.{cut_is}
use Rattle.gq_exec_contribute.proofs.waiting.WaitingInputs.truncate.Goals as goal

pub returns-else-len-eq0 : goal.returns-else-len-eq0
returns-else-len-eq0 c = cut_is c.self.inside.heads c.truncate.new.self c.self.inside.rows c.args.self.now c.args.len c.self.view_is c.truncate.ensures
