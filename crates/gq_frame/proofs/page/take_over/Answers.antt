use Rattle.std.proofs.Common.{sym}
use Rattle.gq_frame.proofs.PageLemmas.{own_as, own_last}
use Rattle.gq_frame.proofs.page.take_over.Goals as goal

pub returns-in-Own-clause-ok : goal.returns-in-Own-clause-ok
returns-in-Own-clause-ok c = own_as _ _ (sym c.in-Own.ensures.value)

pub returns-in-Ok-clause-ok : goal.returns-in-Ok-clause-ok
returns-in-Ok-clause-ok c = own_last _ _ _ (sym c.in-Shared.ensures.value) c.in-Ok.ensures.ok
