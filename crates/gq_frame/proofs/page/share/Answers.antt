use Rattle.gq_frame.proofs.PageLemmas.{shares_shared}
use Rattle.gq_frame.proofs.page.share.Goals as goal

pub returns-in_ok-try_clone-in-Shared : goal.returns-in_ok-try_clone-in-Shared
returns-in_ok-try_clone-in-Shared c = shares_shared _ _ _ c.in-Shared.is c.in_ok-try_clone-in-Shared.ensures
