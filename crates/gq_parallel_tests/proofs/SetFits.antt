-- SetFits: a whole number of 64 bits fits a set of numbers, and a book's targets have contents at the end.
use Rattle.std.proofs.Common.{◌≡◌, ℕ, ℤ, ◌<◌, ◌%◌, List, [], ◌∷◌, slice_get, Some, replicate, subst, refl, sym, ap, ap₂, ◌∙◌, arith, FitsSigned, w64}
use Rattle.std.proofs.lemmas.List.{length-replicate, get_or-replicate}
use Rattle.std.proofs.lemmas.Option.{slice_get-get_or}
use Rattle.gq_value.specs.declared.kind.BaseType.{BaseType-F, fold-roll-BaseType}
use Rattle.gq_value.specs.declared.kind.BaseType.TheVariants as base
use Rattle.gq_value.specs.declared.kind.Kind.{Kind}
use Rattle.gq_value.specs.declared.kind.Kind.TheVariants as kind
use Rattle.gq_value.specs.declared.kind.Input.TheVariants as input
use Rattle.gq_value.specs.declared.value.Value.TheVariants as value
use Rattle.gq_value.specs.Accums.{Base, INT, SetAccum, One}
use Rattle.gq_value.specs.AccumViews.{base_of, base_step}
use Rattle.gq_value.specs.Typed.{suits, has_no_list}
use Rattle.gq_value.specs.ViewLaws.{val-Int}
use Rattle.gq_value.proofs.AccumLemmas.{accum_of-Set, given-One}
use Rattle.gq_core.specs.Batches.{Gains}
use Rattle.gq_nest.specs.declared.content.Content.{Content}
use Rattle.gq_stripe.specs.declared.view.Plan.{Plan}
use Rattle.gq_stripe.specs.declared.view.Put.{Put}
use Rattle.gq_stripe.specs.declared.partials.Partials.{Partials}
use Rattle.gq_stripe.specs.Contents.{Batch, FitsInput}
use Rattle.gq_stripe.specs.Seats.{FitBatches, HasContents, content_at}
use Rattle.gq_stripe.proofs.FitLemmas.{empty_fits, one_more_fits}
use Rattle.gq_parallel_tests.proofs.SumFits.{within_int}

base_of-Int : base_of base.Int ≡ INT
unfolding base_of
base_of-Int = ap base_of (sym base.rolls-Int) ∙ fold-roll-BaseType Base base_step BaseType-F.Int

set_fits : (kinds : List Kind) (n t : ℕ) (x : ℤ) → slice_get kinds t ≡ Some (kind.Set base.Int) → FitsSigned w64 x → FitsInput kinds n (t % n) (t, input.One (value.Int x))
set_fits kinds n t x is fits = record {
  here = refl;
  kind = kind.Set base.Int;
  is = is;
  flat = ap has_no_list (accum_of-Set base.Int);
  takes = ap₂ suits (accum_of-Set base.Int ∙ ap SetAccum base_of-Int) (given-One (value.Int x) ∙ ap One (val-Int x)) ∙ within_int x fits;
}

-- batches with one number for the one set of a book fit
pub number_fits_set : (plan : Plan) (old new : List Batch) (x y : ℤ) → FitsSigned w64 x → y ≡ x → plan.layout ≡ kind.Set base.Int ∷ [] → plan.stripes ≡ 1 → old ≡ replicate 1 []
    → Gains old new 0 (input.One (value.Int y)) → FitBatches plan new
number_fits_set plan old new x y fits same is one empty gains =
    let none = empty_fits plan old (empty ∙ ap (λ (n : ℕ). replicate n []) (sym one)) in
    (one_more_fits plan old new 0 (input.One (value.Int x)) none.0 (omega (arith, none.1)) (subst (λ (z : ℤ). Gains old new 0 (input.One (value.Int z))) same gains)
    (set_fits plan.layout plan.stripes 0 x (ap (λ (kinds : List Kind). slice_get kinds 0) is) fits)).0

-- each target of a book of targets of one kind has a content at the end
pub each_content : (plan : Plan) (puts : List Put) (partials : Partials) (k : Kind) (n : ℕ) → plan.layout ≡ replicate n k → HasContents plan puts partials
    → (t : ℕ) → t < n → (content : Content) × (content_at partials t ≡ Some content)
each_content plan puts partials k n is has t below =
    let long = length-replicate n k in
    let at : slice_get plan.layout t ≡ Some k = ap (λ (kinds : List Kind). slice_get kinds t) is ∙ slice_get-get_or (replicate n k) t k (omega (arith, long)) ∙ ap Some (get_or-replicate n t k k below) in
    let h = has.each t k at in (h.0, h.1)
