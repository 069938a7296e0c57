-- FitLemmas: batches fit a book before anything is added, and still do after a contribution that fits its stripe.
use Rattle.std.proofs.Common.{◌≡◌, ℕ, zero, suc, ◌+◌, ◌%◌, ◌^◌, ◌<◌, ◌≤◌, ◌≢◌, ◌==◌, Bool, true, false, List, [], ◌∷◌, ◌++◌, length, get_or, slice_get, Some, None, sym, refl, ap, ◌∙◌, subst, arith, eq-eqb, ne_eqb, length-append, append-nil}
use Rattle.std.specs.Prelude.{All, replicate}
use Rattle.std.specs.List.{sum_by}
use Rattle.std.proofs.lemmas.Option.{none-some, same_Some, slice_get_within}
use Rattle.std.proofs.lemmas.List.Sums.{sum_by-cons}
use Rattle.std.proofs.lemmas.List.Elements.{All-append, All-cons, All-nil}
use mathlib.Core.Logic.{dite}
use native.Mathlib.Decide.{ℕ_discrete}
use lib.ListN.{length-replicate}
use Rattle.gq_value.specs.declared.kind.Input.{Input}
use Rattle.gq_core.specs.Accounts.{below}
use Rattle.gq_core.specs.Batches.{batch_of, Gains}
use Rattle.gq_core.proofs.TotalLemmas.{is, is_same, is_other, below_no, below_one, below-next}
use Rattle.gq_stripe.specs.declared.view.Plan.{Plan}
use Rattle.gq_stripe.specs.Contents.{Batch, FitsInput}
use Rattle.gq_stripe.specs.Seats.{contributions, FitBatches}

none_in : (n j : ℕ) (batch : Batch) → slice_get (replicate n []) j ≡ Some batch → batch ≡ []
none_in zero j batch got = absurd (none-some batch got)
none_in (suc n) zero batch got = sym (same_Some [] batch got)
none_in (suc n) (suc j) batch got = none_in n j batch got

none_all : (n : ℕ) → contributions (replicate n []) ≡ 0
none_all zero = refl
none_all (suc n) = let r = none_all n in sum_by-cons (λ (batch : Batch). length batch) [] (replicate n []) ∙ omega arith

pub empty_fits : (plan : Plan) (batches : List Batch) → batches ≡ replicate plan.stripes [] → FitBatches plan batches × (contributions batches ≡ 0)
empty_fits plan batches is = subst (λ (bs : List Batch). FitBatches plan bs × (contributions bs ≡ 0)) (sym is) (
  record {
    stripes = length-replicate plan.stripes [];
    few = let z = none_all plan.stripes in omega arith;
    each = λ j batch got. subst (All (FitsInput plan.layout plan.stripes j)) (sym (none_in plan.stripes j batch got)) (All-nil (FitsInput plan.layout plan.stripes j));
  },
  none_all plan.stripes,
)

-- an index without an element is past the end
outside : (xs : List Batch) (j : ℕ) → slice_get xs j ≡ None → length xs ≤ j
outside [] j e = omega arith
outside (x ∷ xs) zero e = absurd (none-some x (sym e))
outside (x ∷ xs) (suc j) e = let r = outside xs j e in omega arith

beyond : (xs : List Batch) (j : ℕ) → length xs ≤ j → slice_get xs j ≡ None
beyond [] j h = refl
beyond (x ∷ xs) zero h = absurd (omega arith)
beyond (x ∷ xs) (suc j) h = beyond xs j (omega arith)

past : (old new : List Batch) (j : ℕ) → slice_get old j ≡ None → length new ≡ length old → slice_get new j ≡ None
past old new j e same = beyond new j (omega (arith, outside old j e, same))

-- one contribution is only in the batch of its stripe
module _ (n target : ℕ) (input : Input) where
  abbrev one : ℕ → Batch
  one j = batch_of n j ((target, input) ∷ [])

  one_here : (j : ℕ) → target % n ≡ j → one j ≡ (target, input) ∷ []
  one_here j e = ap (λ b. Rattle.std.proofs.Common.cond b ((target, input) ∷ []) []) (eq-eqb (target % n) j e)

  one_else : (j : ℕ) → target % n ≢ j → one j ≡ []
  one_else j ne = ap (λ b. Rattle.std.proofs.Common.cond b ((target, input) ∷ []) []) (ne_eqb (target % n) j ne)

  one_long : (j : ℕ) → length (one j) ≡ is (target % n) j
  one_long j = dite (ℕ_discrete (target % n) j)
      (λ (e : target % n ≡ j). ap length (one_here j e) ∙ sym (is_same (target % n) j e))
      (λ (ne : target % n ≢ j). ap length (one_else j ne) ∙ sym (is_other (target % n) j ne))

  -- so all batches together have one more
  counted : (j : ℕ) (old new : List Batch) → length new ≡ length old → ((k : ℕ) (batch : Batch) → slice_get old k ≡ Some batch → slice_get new k ≡ Some (batch ++ one (j + k)))
      → contributions new + below (target % n) j ≡ contributions old + below (target % n) (j + length old)
  counted j [] [] e h = let same : j ≡ j + 0 = omega arith in let z = ap (below (target % n)) same in omega arith
  counted j [] (b ∷ new) e h = absurd (omega arith)
  counted j (a ∷ old) [] e h = absurd (omega arith)
  counted j (a ∷ old) (b ∷ new) e h =
      let f : Batch → ℕ = λ (batch : Batch). length batch in
      let first : b ≡ a ++ one (j + 0) = same_Some b (a ++ one (j + 0)) (h 0 a refl) in
      let l = ap length first in let m = length-append a (one (j + 0)) in let o = one_long (j + 0) in
      let r = counted (j + 1) old new (omega arith) (λ k batch got. h (suc k) batch got ∙ ap (λ (x : ℕ). Some (batch ++ one x)) (omega arith)) in
      let c = sum_by-cons f b new in let d = sum_by-cons f a old in let g = below-next (target % n) j in
      let z : is (target % n) (j + 0) ≡ is (target % n) j = ap (is (target % n)) (omega arith) in
      let y : below (target % n) (j + 1 + length old) ≡ below (target % n) (j + length (a ∷ old)) = ap (below (target % n)) (omega arith) in omega arith

pub one_more_fits : (plan : Plan) (old new : List Batch) (target : ℕ) (input : Input) → FitBatches plan old → contributions old < 2 ^ 35 → Gains old new target input
    → FitsInput plan.layout plan.stripes (target % plan.stripes) (target, input) → FitBatches plan new × (contributions new ≤ contributions old + 1)
one_more_fits plan old new target input fit few gains fits =
    let n : ℕ = length old in let z = counted n target input 0 old new gains.same (λ k batch got. gains.gains k batch got ∙ ap (λ (x : ℕ). Some (batch ++ one (length old) target input x)) (from_zero k)) in
    let a = below_no (target % n) 0 (omega arith) in let b = below_one (target % n) (0 + n) in (
      record {
        stripes = gains.same ∙ fit.stripes;
        few = omega arith;
        each = λ j batch got. one_batch j batch got (slice_get old j) refl;
      },
      omega arith,
    )
  where
    from_zero : (k : ℕ) → k ≡ 0 + k
    from_zero k = omega arith

    fits_one : (j : ℕ) → target % plan.stripes ≡ j → All (FitsInput plan.layout plan.stripes j) ((target, input) ∷ [])
    fits_one j e = All-cons (FitsInput plan.layout plan.stripes j) (target, input) [] (subst (λ (i : ℕ). FitsInput plan.layout plan.stripes i (target, input)) e fits) (All-nil (FitsInput plan.layout plan.stripes j))

    one_fits : (j : ℕ) → All (FitsInput plan.layout plan.stripes j) (batch_of (length old) j ((target, input) ∷ []))
    one_fits j = dite (ℕ_discrete (target % length old) j)
        (λ (e : target % length old ≡ j). subst (All (FitsInput plan.layout plan.stripes j)) (sym (one_here (length old) target input j e)) (fits_one j (ap (λ (m : ℕ). target % m) (sym fit.stripes) ∙ e)))
        (λ (ne : target % length old ≢ j). subst (All (FitsInput plan.layout plan.stripes j)) (sym (one_else (length old) target input j ne)) (All-nil (FitsInput plan.layout plan.stripes j)))

    one_batch : (j : ℕ) (batch : Batch) → slice_get new j ≡ Some batch → (o : Rattle.std.proofs.Common.Option Batch) → slice_get old j ≡ o → All (FitsInput plan.layout plan.stripes j) batch
    one_batch j batch got (Some b) e =
        let same : b ++ batch_of (length old) j ((target, input) ∷ []) ≡ batch = same_Some (b ++ batch_of (length old) j ((target, input) ∷ [])) batch (sym (gains.gains j b e) ∙ got) in
        subst (All (FitsInput plan.layout plan.stripes j)) same (All-append (FitsInput plan.layout plan.stripes j) b (batch_of (length old) j ((target, input) ∷ [])) (fit.each j b e) (one_fits j))
    one_batch j batch got None e = absurd (Rattle.std.proofs.lemmas.Option.none-some batch (sym (past old new j e gains.same) ∙ got))
