use Rattle.gq_nest.proofs.FeedSteps.{on_ok}
use Rattle.gq_frame.proofs.PageLemmas.{allows_loose, allows_own, changes_loose, keeps_loose, keeps_own, loose_bound, own_bound}
use Rattle.gq_frame.proofs.page.set.Goals as goal

pub at_mut-requires : goal.at_mut-requires
at_mut-requires c = own_bound _ _ _ _ c.in_ok-own.ensures.ok c.in-Own.is c.requires.index

pub set-requires : goal.set-requires
set-requires c = allows_own _ _ _ _ _ _ c.in_ok-own.ensures.ok c.in-Own.is c.requires.allows c.at_mut.ensures.value

pub at_mut-requires-in-Loose : goal.at_mut-requires-in-Loose
at_mut-requires-in-Loose c = loose_bound _ _ _ _ c.in_ok-own.ensures.ok c.in-Loose.is c.requires.index

pub set-requires-in-Loose : goal.set-requires-in-Loose
set-requires-in-Loose c = allows_loose _ _ _ _ _ _ c.in_ok-own.ensures.ok c.in-Loose.is c.requires.allows c.at_mut-in-Loose.ensures.value

pub returns-in-Own-clause-keeps : goal.returns-in-Own-clause-keeps
returns-in-Own-clause-keeps c = keeps_own _ _ _ _ _ c.in_ok-own.ensures.ok c.in-Own.is

pub returns-in-Loose-clause-takes : goal.returns-in-Loose-clause-takes
returns-in-Loose-clause-takes c = on_ok _ c.set-in-Loose.ensures.takes (changes_loose _ _ _ _ _ _ _ c.in_ok-own.ensures.ok c.in-Loose.is c.requires.index c.at_mut-in-Loose.ensures.value)

pub returns-in-Loose-clause-keeps : goal.returns-in-Loose-clause-keeps
returns-in-Loose-clause-keeps c = keeps_loose _ _ _ _ _ _ c.in_ok-own.ensures.ok c.in-Loose.is c.at_mut-in-Loose.ensures.value c.set-in-Loose.ensures.held
