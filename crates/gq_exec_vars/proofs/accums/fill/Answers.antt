use Rattle.gq_nest.proofs.FeedSteps.{on_ok}
use Rattle.gq_exec_vars.proofs.ContentLemmas.{adds_alike}
use Rattle.gq_exec_vars.proofs.accums.fill.Goals as goal

pub returns : goal.returns
returns c = on_ok _ c.fill.ensures (adds_alike _ _ _ _ _ _ c.in_ok-opening.ensures)
