use Rattle.std.proofs.Common.{sym, ◌∙◌, subst}
use Rattle.gq_frame.specs.Targets.{ShowTheSame}
use Rattle.gq_frame.specs.Pages.{contents_of}
use Rattle.gq_frame.proofs.OpenSteps.{same_length}
use Rattle.gq_frame.proofs.PageLemmas.{shared_all}
use Rattle.gq_frame.proofs.pages.Pages.share.Goals as goal

pub invariant_of-result : goal.invariant_of-result
invariant_of-result c = let t = shared_all _ _ (rw c.as_slice.ensures at c.in_ok-share_all.ensures) c.self.invariant.0 in (t.0, c.self.invariant.1 ∙ sym (same_length _ _ t.1))

pub returns : goal.returns
returns c = let t = shared_all _ _ (rw c.as_slice.ensures at c.in_ok-share_all.ensures) c.self.invariant.0 in subst (λ ys. ShowTheSame ys (contents_of c.in_ok-share_all.field-0)) c.self.view_is t.1
