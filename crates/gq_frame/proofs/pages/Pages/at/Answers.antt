use Rattle.gq_frame.proofs.PageLemmas.{content_there, index_there, page_index}
use Rattle.gq_frame.proofs.pages.Pages.at.Goals as goal

pub at-requires : goal.at-requires
at-requires c = page_index c.self.inside.pages c.args.self.now c.args.at c.self.view_is c.self.invariant.0 c.requires

pub content-requires : goal.content-requires
content-requires c = index_there c.self.inside.pages c.args.self.now c.args.at c.self.view_is c.self.invariant.0 c.at.result.now c.requires c.at.ensures

pub returns : goal.returns
returns c = content_there c.self.inside.pages c.args.self.now c.args.at c.self.view_is c.self.invariant.0 _ _ c.requires c.at.ensures c.content.ensures
