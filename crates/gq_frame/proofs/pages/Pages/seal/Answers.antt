use Rattle.std.proofs.Common.{ap, sym, ◌∙◌, length}
use Rattle.gq_frame.proofs.PageLemmas.{sealed_all}
use Rattle.gq_frame.proofs.pages.Pages.seal.Goals as goal

pub invariant_of-self : goal.invariant_of-self
invariant_of-self c = let t = sealed_all _ _ c.seal_all.ensures c.self.invariant.0 in (t.1, c.self.invariant.1 ∙ sym (ap length t.0))

pub returns : goal.returns
returns c = let t = sealed_all _ _ c.seal_all.ensures c.self.invariant.0 in t.0 ∙ c.self.view_is
