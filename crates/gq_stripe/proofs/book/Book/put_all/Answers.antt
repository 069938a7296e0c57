use Rattle.std.proofs.Common.{◌≡◌, ◌||◌, Bool, ap, ap₂, sym, subst, ◌∙◌}
use Rattle.gq_stripe.specs.declared.view.Plan.{Plan}
use Rattle.gq_stripe.specs.Contents.{FitsBatch, all_scalar}
use Rattle.gq_stripe.proofs.PutLemmas.{fits_at, of_next, put_next}
use Rattle.gq_stripe.proofs.book.Book.put_all.Goals.{then-put_at, else-put_at}
use Rattle.gq_stripe.proofs.book.Book.put_all.Goals as goal

pub put_at-requires-clause-fits : goal.put_at-requires-clause-fits
put_at-requires-clause-fits g c = subst (λ (o : Plan). FitsBatch o.layout o.stripes c.loop-j.j c.at.result.now) (sym (of_next _ _ _ _ c.args.place.now.me.0 c.loop-j.place.me.0 c.loop-j.invariant.3)) (fits_at _ _ _ _ c.requires.fit c.at.ensures)

pub loop-j-preserved : goal.loop-j-preserved
loop-j-preserved g c =
    let i = c.loop-j.invariant in
    let spoiled : (c.put_at.result || c.loop-j.spoiled) ≡ c.if-put_at.spoiled = elim c.if-put_at.branch [
      | then-put_at w ↦ ap (λ (b : Bool). b || c.loop-j.spoiled) w.if-put_at.true ∙ (sym w.if-put_at.true ∙ sym w.spoiled-is)
      | else-put_at w ↦ ap (λ (b : Bool). b || c.loop-j.spoiled) w.if-put_at.false ∙ sym w.spoiled-is
    ] in (
      c.put_at.ensures.same.0 ∙ i.0,
      c.put_at.ensures.same.1 ∙ i.1,
      c.put_at.ensures.put.0,
      put_next _ _ _ _ _ _ _ c.args.place.now.me.0 c.loop-j.place.me.0 c.put_at.new.place.me.0 c.at.ensures spoiled i.3 c.put_at.ensures.put.1,
      λ all. sym spoiled ∙ ap₂ (λ (x y : Bool). x || y) (c.put_at.ensures.scalars (ap (λ (o : Plan). all_scalar o.layout) (of_next _ _ _ _ c.args.place.now.me.0 c.loop-j.place.me.0 i.3) ∙ all)) (i.4 all),
    )
