use Rattle.gq_nest.proofs.FeedSteps.{on_ok}
use Rattle.gq_frame.proofs.PageLemmas.{allowed_there, changed_there, index_there, kept_there, page_index}
use Rattle.gq_frame.proofs.pages.Pages.set.Goals as goal

pub at_mut-requires : goal.at_mut-requires
at_mut-requires c = page_index c.self.inside.pages c.args.self.now c.args.at c.self.view_is c.self.invariant.0 c.requires.index

pub set-requires-clause-index : goal.set-requires-clause-index
set-requires-clause-index c = index_there c.self.inside.pages c.args.self.now c.args.at c.self.view_is c.self.invariant.0 _ c.requires.index c.at_mut.ensures.value

pub set-requires-clause-allows : goal.set-requires-clause-allows
set-requires-clause-allows c = allowed_there c.self.inside.pages c.args.self.now c.args.at c.self.view_is c.self.invariant.0 _ _ c.requires.index c.at_mut.ensures.value c.requires.allows

pub invariant_of-self : goal.invariant_of-self
invariant_of-self c = kept_there _ _ _ _ _ c.self.invariant.1 c.self.invariant.0 c.at_mut.ensures.value c.set.ensures.keeps

pub returns : goal.returns
returns c = on_ok _ c.set.ensures.takes (changed_there c.self.inside.pages c.args.self.now c.args.at c.self.view_is c.self.invariant.0 _ _ _ c.requires.index c.at_mut.ensures.value)
