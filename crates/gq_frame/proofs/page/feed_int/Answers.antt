use Rattle.std.proofs.Common.{rules, w64, FitsSigned}
use Rattle.std.proofs.lemmas.Int.{to_z-of_z}
use Rattle.gq_nest.proofs.FeedSteps.{on_ok}
use Rattle.gq_frame.proofs.PageLemmas.{changes_loose, keeps_loose, keeps_own, loose_bound, own_bound}
use Rattle.gq_frame.proofs.page.feed_int.Goals as goal

pub at_mut-requires : goal.at_mut-requires
at_mut-requires c = own_bound _ _ _ _ c.in_ok-own.ensures.ok c.in-Own.is c.requires

pub at_mut-requires-in-Loose : goal.at_mut-requires-in-Loose
at_mut-requires-in-Loose c = loose_bound _ _ _ _ c.in_ok-own.ensures.ok c.in-Loose.is c.requires

pub returns-in-Own-clause-keeps : goal.returns-in-Own-clause-keeps
returns-in-Own-clause-keeps c = keeps_own _ _ _ _ _ c.in_ok-own.ensures.ok c.in-Own.is

pub returns-in-Loose-clause-takes : goal.returns-in-Loose-clause-takes
returns-in-Loose-clause-takes c = let f : FitsSigned w64 c.args.x = search rules in on_ok _ (rw (to_z-of_z w64 c.args.x f) at c.feed_int.ensures.takes) (changes_loose _ _ _ _ _ _ _ c.in_ok-own.ensures.ok c.in-Loose.is c.requires c.at_mut-in-Loose.ensures.value)

pub returns-in-Loose-clause-keeps : goal.returns-in-Loose-clause-keeps
returns-in-Loose-clause-keeps c = keeps_loose _ _ _ _ _ _ c.in_ok-own.ensures.ok c.in-Loose.is c.at_mut-in-Loose.ensures.value c.feed_int.ensures.held
