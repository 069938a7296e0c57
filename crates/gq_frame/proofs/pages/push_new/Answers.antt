use Rattle.std.proofs.Common.{[], ◌∷◌, ◌++◌, ap, ◌∙◌}
use Rattle.gq_frame.specs.declared.single.Single.TheVariants as single
use Rattle.gq_frame.proofs.PageLemmas.{new_single}
use Rattle.gq_frame.proofs.pages.push_new.Goals as goal

pub returns-clause-ok : goal.returns-clause-ok
returns-clause-ok c = (new_single _ _ c.push.new.self c.args.content _ c.requires.pages c.requires.full (c.in_ok-push.ensures.ok ∙ ap (λ ys. ys ++ single.Own c.args.content ∷ []) (c.from_vec-items.ensures ∙ c.in_ok-with_capacity.ensures.items)) c.push-2.ensures.ok c.push-2.ensures.err).0

pub returns-clause-pages : goal.returns-clause-pages
returns-clause-pages c = (new_single _ _ c.push.new.self c.args.content _ c.requires.pages c.requires.full (c.in_ok-push.ensures.ok ∙ ap (λ ys. ys ++ single.Own c.args.content ∷ []) (c.from_vec-items.ensures ∙ c.in_ok-with_capacity.ensures.items)) c.push-2.ensures.ok c.push-2.ensures.err).1
