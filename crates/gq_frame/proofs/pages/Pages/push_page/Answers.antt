use Rattle.gq_frame.proofs.FillLemmas.{copy_count, copy_fills}
use Rattle.gq_frame.proofs.pages.Pages.push_page.Goals as goal

pub invariant_of-self-2 : goal.invariant_of-self-2
invariant_of-self-2 c = (c.push_copy.ensures.pages, copy_count _ _ _ _ c.self.invariant.1 c.requires c.in_ok-push_copy.ensures.ok)

pub returns-clause-pushes : goal.returns-clause-pushes
returns-clause-pushes c = copy_fills _ _ _ _ c.self.view_is c.in_ok-push_copy.ensures.ok
