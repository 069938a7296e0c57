use Rattle.std.proofs.Common.{rules, w64, FitsSigned}
use Rattle.std.proofs.lemmas.Int.{to_z-of_z}
use Rattle.gq_nest.proofs.FeedSteps.{on_ok}
use Rattle.gq_frame.proofs.PageLemmas.{changed_there, index_there, kept_there, page_index}
use Rattle.gq_frame.proofs.pages.Pages.feed_int.Goals as goal

pub at_mut-requires : goal.at_mut-requires
at_mut-requires c = page_index c.self.inside.pages c.args.self.now c.args.at c.self.view_is c.self.invariant.0 c.requires

pub feed_int-requires : goal.feed_int-requires
feed_int-requires c = index_there c.self.inside.pages c.args.self.now c.args.at c.self.view_is c.self.invariant.0 _ c.requires c.at_mut.ensures.value

pub invariant_of-self : goal.invariant_of-self
invariant_of-self c = kept_there _ _ _ _ _ c.self.invariant.1 c.self.invariant.0 c.at_mut.ensures.value c.feed_int.ensures.keeps

pub returns : goal.returns
returns c = let f : FitsSigned w64 c.args.x = search rules in on_ok _ (rw (to_z-of_z w64 c.args.x f) at c.feed_int.ensures.takes) (changed_there c.self.inside.pages c.args.self.now c.args.at c.self.view_is c.self.invariant.0 _ _ _ c.requires c.at_mut.ensures.value)
