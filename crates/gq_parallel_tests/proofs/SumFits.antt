-- SumFits: a whole number of 64 bits fits a sum.
use Rattle.std.proofs.Common.{◌≡◌, ℕ, ℤ, pos, negsuc, ◌+◌, ◌<◌, ◌≤◌, ◌^◌, ◌%◌, true, List, slice_get, Some, Result, Ok, Err, OnOk, replicate, subst, refl, ap, ap₂, ◌∙◌, arith, FitsSigned, w64}
use Rattle.std.proofs.lemmas.Bool.Decides.{nat_tests}
use Rattle.gq_value.specs.declared.kind.Number.TheVariants as number
use Rattle.gq_value.specs.declared.kind.Kind.{Kind}
use Rattle.gq_value.specs.declared.kind.Kind.TheVariants as kind
use Rattle.gq_value.specs.declared.kind.Input.TheVariants as input
use Rattle.gq_value.specs.declared.value.Value.TheVariants as value
use Rattle.gq_value.specs.Arithmetic.{is_within}
use Rattle.gq_value.specs.Accums.{One}
use Rattle.gq_value.specs.Typed.{suits, has_no_list}
use Rattle.gq_value.specs.ViewLaws.{val-Int}
use Rattle.gq_value.proofs.AccumLemmas.{accum_of-Sum, given-One}
use Rattle.gq_core.specs.Batches.{Gains}
use Rattle.gq_stripe.specs.declared.view.Plan.{Plan}
use Rattle.gq_stripe.specs.Contents.{Batch, FitsInput}
use Rattle.gq_stripe.specs.Seats.{contributions, FitBatches, HasContents, content_at}
use Rattle.gq_stripe.specs.declared.view.Put.{Put}
use Rattle.gq_stripe.specs.declared.partials.Partials.{Partials}
use Rattle.gq_nest.specs.declared.content.Content.{Content}
use Rattle.gq_stripe.proofs.FitLemmas.{one_more_fits}

pub within_int : (z : ℤ) → FitsSigned w64 z → is_within number.Int z ≡ true
within_int (pos n) h = let k : n < 2 ^ 63 = h.sfits in grind (arith, nat_tests)
within_int (negsuc n) h = let k : n < 2 ^ 63 = h.sfits in grind (arith, nat_tests)

sum_fits : (kinds : List Kind) (n t : ℕ) (x : ℤ) → slice_get kinds t ≡ Some (kind.Sum number.Int) → FitsSigned w64 x → FitsInput kinds n (t % n) (t, input.One (value.Int x))
sum_fits kinds n t x is fits = record {
  here = refl;
  kind = kind.Sum number.Int;
  is = is;
  flat = ap has_no_list (accum_of-Sum number.Int);
  takes = ap₂ suits (accum_of-Sum number.Int) (given-One (value.Int x) ∙ ap One (val-Int x)) ∙ within_int x fits;
}

-- batches with one more number for a sum fit
pub one_number_fits : (plan : Plan) (old new : List Batch) (target : ℕ) (x y : ℤ) → FitsSigned w64 x → y ≡ x → slice_get plan.layout target ≡ Some (kind.Sum number.Int)
    → FitBatches plan old → contributions old < 2 ^ 35 → Gains old new target (input.One (value.Int y)) → FitBatches plan new × (contributions new ≤ contributions old + 1)
one_number_fits plan old new target x y fits same is fit few gains =
    one_more_fits plan old new target (input.One (value.Int x)) fit few (subst (λ (z : ℤ). Gains old new target (input.One (value.Int z))) same gains) (sum_fits plan.layout plan.stripes target x is fits)

-- the only target of a book of a sum has a content at the end
pub first_content : (plan : Plan) (puts : List Put) (partials : Partials) → plan.layout ≡ replicate 1 (kind.Sum number.Int) → HasContents plan puts partials
    → (content : Content) × (content_at partials 0 ≡ Some content)
first_content plan puts partials is has = let h = has.each 0 (kind.Sum number.Int) (ap (λ (kinds : List Kind). slice_get kinds 0) is) in (h.0, h.1)

-- a consequence of the contract of a call that succeeded
pub on_ok : {T E : Type 0} {P Q : Type 0} (r : Result T E) → OnOk r P → (P → Q) → OnOk r Q
on_ok (Ok t) h f = f h
on_ok (Err e) h f = tt
