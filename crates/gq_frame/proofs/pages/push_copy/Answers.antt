use Rattle.gq_frame.proofs.FillLemmas.{copy_either}
use Rattle.gq_frame.proofs.pages.push_copy.Goals as goal

pub returns-clause-ok : goal.returns-clause-ok
returns-clause-ok c = (copy_either _ _ _ _ _ c.requires.pages c.requires.full c.requires.page c.in_ok-copy.ensures c.push.ensures.ok c.push.ensures.err).0

pub returns-clause-pages : goal.returns-clause-pages
returns-clause-pages c = (copy_either _ _ _ _ _ c.requires.pages c.requires.full c.requires.page c.in_ok-copy.ensures c.push.ensures.ok c.push.ensures.err).2
