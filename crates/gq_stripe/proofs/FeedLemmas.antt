-- FeedLemmas: contents after one more input, and after a batch.
use Rattle.std.proofs.Common.{◌≡◌, ℕ, zero, suc, ◌+◌, ◌*◌, ◌%◌, ◌/◌, ◌^◌, ◌<◌, ◌≤◌, ◌≢◌, ◌==◌, ◌&&◌, Bool, true, false, List, [], ◌∷◌, ◌++◌, take, length, map, set, get_or, slice_get, Some, None, sym, refl, ap, ap₂, ◌∙◌, subst, arith, eq-eqb, ne_eqb, length-append, append_assoc, append-nil, div-add-mod'}
use Rattle.std.specs.Prelude.{All, filter, flat_map}
use Rattle.std.specs.List.{list_all}
use Rattle.std.proofs.lemmas.Option.{none-some, same_Some}
use Rattle.std.proofs.lemmas.List.{map-append}
use Rattle.std.proofs.lemmas.List.Elements.{All-head, All-tail, filter-append}
use mathlib.Core.Logic.{dite}
use native.Mathlib.Decide.{ℕ_discrete}
use Rattle.gq_value.specs.declared.kind.Kind.{Kind}
use Rattle.gq_value.specs.declared.kind.Input.{Input}
use Rattle.gq_value.specs.Accums.{Accum, Given}
use Rattle.gq_value.specs.AccumViews.{accum_of, given}
use Rattle.gq_value.specs.Typed.{is_scalar, suits}
use Rattle.gq_accum_laws.specs.Holds.{Holds}
use Rattle.gq_accum_laws.specs.After as model
use Rattle.gq_accum_laws.specs.Fits.{HasRoom}
use Rattle.gq_accum_laws.proofs.FedLaws.{fed_law}
use Rattle.gq_accum_laws.proofs.KindLaws.{after_cut}
use Rattle.gq_nest.specs.declared.content.Content.{Content}
use Rattle.gq_nest.specs.Shows.{Shows, TakesInput}
use Rattle.gq_core.specs.Contents.{inputs_to, given_to}
use Rattle.gq_core.proofs.TotalLemmas.{at_same, at_other}
use Rattle.gq_stripe.specs.Contents.{Batch, FitsInput, content_after, StandsAt, HoldsAll}
use Rattle.gq_stripe.specs.Feeding.{IsReady}

-- ---- the inputs to a target

pub inputs_to-append : (target : ℕ) (xs ys : Batch) → inputs_to target (xs ++ ys) ≡ inputs_to target xs ++ inputs_to target ys
inputs_to-append target xs ys = ap (map (λ input. input.1)) (filter-append (λ input. input.0 == target) xs ys) ∙ map-append (λ input. input.1) (filter (λ input. input.0 == target) xs) (filter (λ input. input.0 == target) ys)

given_to-append : (target : ℕ) (xs ys : Batch) → given_to target (xs ++ ys) ≡ given_to target xs ++ given_to target ys
given_to-append target xs ys = ap (map given) (inputs_to-append target xs ys) ∙ map-append given (inputs_to target xs) (inputs_to target ys)

-- one contribution, by whether it is to the target
abbrev if_to : Bool → ℕ × Input → Batch → Batch
if_to true x xs = x ∷ xs
if_to false x xs = xs

given_mine : (target : ℕ) (x : ℕ × Input) → x.0 ≡ target → given_to target (x ∷ []) ≡ given x.1 ∷ []
given_mine target x e = ap (λ b. map given (map (λ (input : ℕ × Input). input.1) (Rattle.std.proofs.Common.cond b (x ∷ []) []))) (eq-eqb x.0 target e)

given_other : (target : ℕ) (x : ℕ × Input) → x.0 ≢ target → given_to target (x ∷ []) ≡ []
given_other target x ne = ap (λ b. map given (map (λ (input : ℕ × Input). input.1) (Rattle.std.proofs.Common.cond b (x ∷ []) []))) (ne_eqb x.0 target ne)

-- all of them fit the target's kind, and they aren't more than all inputs
module _ (kinds : List Kind) (stripes j target : ℕ) (kind : Kind) (is : slice_get kinds target ≡ Some kind) where
  pub all_suit : (xs : Batch) → All (FitsInput kinds stripes j) xs → (list_all (suits (accum_of kind)) (given_to target xs) ≡ true) × (length (given_to target xs) ≤ length xs)
  all_suit [] h = (refl, omega arith)
  all_suit (x ∷ xs) h =
      let rest = all_suit xs (All-tail (FitsInput kinds stripes j) x xs h) in let first = All-head (FitsInput kinds stripes j) x xs h in
      let cut : given_to target (x ∷ xs) ≡ given_to target (x ∷ []) ++ given_to target xs = given_to-append target (x ∷ []) xs in
      dite (ℕ_discrete x.0 target)
      (λ (e : x.0 ≡ target).
      let whole : given_to target (x ∷ xs) ≡ given x.1 ∷ given_to target xs = cut ∙ ap (λ l. l ++ given_to target xs) (given_mine target x e) in
      let same : first.kind ≡ kind = same_Some first.kind kind (sym first.is ∙ (ap (slice_get kinds) e ∙ is)) in
      let suit : suits (accum_of kind) (given x.1) ≡ true = subst (λ (k : Kind). suits (accum_of k) (given x.1) ≡ true) same first.takes in
      (ap (list_all (suits (accum_of kind))) whole ∙ ap₂ ◌&&◌ suit rest.0, let l = ap length whole in let m = rest.1 in omega arith))
      (λ (ne : x.0 ≢ target).
      let whole : given_to target (x ∷ xs) ≡ given_to target xs = cut ∙ ap (λ l. l ++ given_to target xs) (given_other target x ne) in
      (ap (list_all (suits (accum_of kind))) whole ∙ rest.0, let l = ap length whole in let m = rest.1 in omega arith))

  -- so a content after them has room for one more, as long as they are few
  pub has_room : (xs : Batch) → All (FitsInput kinds stripes j) xs → length xs < 2 ^ 62 → HasRoom (accum_of kind) (content_after kind target xs)
  has_room xs h few =
      let s = all_suit xs h in let m = s.1 in
      (0 + length (given_to target xs), omega arith, fed_law.fed (accum_of kind) (model.fresh (accum_of kind)) 0 (given_to target xs) s.0 (fed_law.opening (accum_of kind)))

-- ---- targets and places

same_place : (t u n : ℕ) → t % n ≡ u % n → t / n ≡ u / n → t ≡ u
same_place t u n e f =
    let a = div-add-mod' t n in let b = div-add-mod' u n in
    sym a ∙ (λ i. f i * n + e i) ∙ b

-- ---- one more input

module _ (kinds : List Kind) (stripes j : ℕ) where
  pub fed_one : (inputs : Batch) (contents : List Content) (x : ℕ × Input) (old new : Content) → HoldsAll kinds stripes j inputs contents → All (FitsInput kinds stripes j) inputs → FitsInput kinds stripes j x
      → length inputs < 2 ^ 62 → slice_get contents (x.0 / stripes) ≡ Some old → TakesInput old (given x.1) new → HoldsAll kinds stripes j (inputs ++ x ∷ []) (set contents (x.0 / stripes) new)
  fed_one inputs contents x old new h fit fits few found takes = record {
    each = λ target kind is here. dite (ℕ_discrete x.0 target)
        (λ (e : x.0 ≡ target).
        let at = h.each target kind is here in let place : x.0 / stripes ≡ target / stripes = ap (λ (n : ℕ). n / stripes) e in
        let same_kind : fits.kind ≡ kind = same_Some fits.kind kind (sym fits.is ∙ (ap (slice_get kinds) e ∙ is)) in
        let suit : suits (accum_of kind) (given x.1) ≡ true = subst (λ (k : Kind). suits (accum_of k) (given x.1) ≡ true) same_kind fits.takes in
        let same : at.content ≡ old = same_Some at.content old (sym at.is ∙ (ap (slice_get contents) (sym place) ∙ found)) in
        let shows : Shows (accum_of kind) old (content_after kind target inputs) = subst (λ (c : Content). Shows (accum_of kind) c (content_after kind target inputs)) same at.shows in
        let more : model.after (accum_of kind) (content_after kind target inputs) (given x.1 ∷ []) ≡ content_after kind target (inputs ++ x ∷ []) =
        after_cut (accum_of kind) (model.fresh (accum_of kind)) (given_to target inputs) (given x.1 ∷ [])
        ∙ ap (model.after (accum_of kind) (model.fresh (accum_of kind))) (ap (λ l. given_to target inputs ++ l) (sym (given_mine target x e)) ∙ sym (given_to-append target inputs (x ∷ []))) in record {
          content = new;
          is = ap (slice_get (set contents (x.0 / stripes) new)) (sym place) ∙ at_same contents (x.0 / stripes) old new found;
          shows = subst (Shows (accum_of kind) new) more (takes.each (accum_of kind) (content_after kind target inputs) shows (has_room kinds stripes j target kind is inputs fit few) suit);
        })
        (λ (ne : x.0 ≢ target).
        let at = h.each target kind is here in
        let apart : target / stripes ≢ x.0 / stripes = λ e. ne (sym (same_place target x.0 stripes (here ∙ sym fits.here) e)) in
        let same : content_after kind target inputs ≡ content_after kind target (inputs ++ x ∷ []) =
        ap (model.after (accum_of kind) (model.fresh (accum_of kind))) (sym (append-nil (given_to target inputs)) ∙ (ap (λ l. given_to target inputs ++ l) (sym (given_other target x ne)) ∙ sym (given_to-append target inputs (x ∷ [])))) in record {
          content = at.content;
          is = at_other contents (x.0 / stripes) (target / stripes) new apart ∙ at.is;
          shows = subst (Shows (accum_of kind) at.content) same at.shows;
        });
  }

  -- where its content is stored
  pub stands : (inputs : Batch) (contents : List Content) (x : ℕ × Input) → HoldsAll kinds stripes j inputs contents → (fits : FitsInput kinds stripes j x) → StandsAt contents (x.0 / stripes) fits.kind (content_after fits.kind x.0 inputs)
  stands inputs contents x h fits = h.each x.0 fits.kind fits.is fits.here
