-- OrderLemmas: if one seat made all puts of a stripe, the stripe's puts in ticket order are a permutation of them.
use Rattle.std.proofs.Common.{◌≡◌, ℕ, zero, suc, ◌+◌, ◌%◌, ◌<◌, ◌≤◌, ◌≢◌, ◌==◌, ◌&&◌, Bool, true, false, List, [], ◌∷◌, ◌++◌, take, length, map, get_or, slice_get, Option, Some, None, sym, refl, ap, ap₂, ◌∙◌, subst, arith, eq-eqb, ne_eqb, append_assoc, append-nil}
use Rattle.std.specs.Prelude.{All, filter, flat_map}
use Rattle.std.specs.List.Sorted.{IsPermutation}
use Rattle.std.proofs.lemmas.Option.{none-some, same_Some}
use Rattle.std.proofs.lemmas.List.Concat.{flat_map-append}
use Rattle.std.proofs.lemmas.List.Elements.{All-head, All-tail}
use Rattle.std.proofs.lemmas.List.Sorted.{IsPermutation-refl, IsPermutation-trans, IsPermutation-append_left, IsPermutation-append_right, IsPermutation-append_comm, IsPermutation-map}
use mathlib.Core.Logic.{dite}
use native.Mathlib.Decide.{ℕ_discrete}
use Rattle.gq_value.specs.declared.kind.Kind.{Kind}
use Rattle.gq_value.specs.declared.kind.Input.{Input}
use Rattle.gq_value.specs.AccumViews.{accum_of, given}
use Rattle.gq_value.specs.Typed.{has_no_list}
use Rattle.gq_accum_laws.specs.After as model
use Rattle.gq_accum_laws.proofs.KindLaws.{order_law}
use Rattle.gq_core.specs.Accounts.{one_if, below, times}
use Rattle.gq_core.specs.Contents.{numbers, inputs_to, given_to}
use Rattle.gq_core.proofs.TotalLemmas.{is_same, is_other, below_yes, below_no, below-next, first_same, first_other, times-append}
use Rattle.gq_stripe.specs.declared.view.Put.{Put}
use Rattle.gq_stripe.specs.Contents.{Batch, FitsInput, FitsBatch, content_after, inputs_of}
use Rattle.gq_stripe.specs.Rule.{put_with}
use Rattle.gq_stripe.proofs.FeedLemmas.{inputs_to-append}

-- ---- a list that has each number below n once

found : (x : ℕ) (xs : List ℕ) → 0 < times x xs → (before : List ℕ) × (behind : List ℕ) × (xs ≡ before ++ x ∷ behind)
found x [] h = absurd (omega arith)
found x (y ∷ ys) h = dite (ℕ_discrete x y)
    (λ (e : x ≡ y). ([], ys, ap (λ (z : ℕ). z ∷ ys) (sym e)))
    (λ (ne : x ≢ y). let n = is_other x y ne in let r = found x ys (omega arith) in (y ∷ r.0, r.1, ap (λ (zs : List ℕ). y ∷ zs) r.2))

shuffled : {B : Type 0} (f : ℕ → List B) (n : ℕ) (xs : List ℕ) → ((c : ℕ) → times c xs ≡ below c n) → IsPermutation (flat_map f (numbers n)) (flat_map f xs)
shuffled f zero [] counts = IsPermutation-refl []
shuffled f zero (x ∷ xs) counts = let h = counts x in let a = is_same x x refl in let b = below_no x 0 (omega arith) in absurd (omega arith)
shuffled {B} f (suc n) xs counts =
    let h = counts n in let up = below_yes n (suc n) (omega arith) in
    let r = found n xs (omega arith) in let before : List ℕ = r.0 in let behind : List ℕ = r.1 in
    let rest : (c : ℕ) → times c (before ++ behind) ≡ below c n = λ c.
    let k = counts c in let e = ap (times c) r.2 in let a = times-append c before (n ∷ behind) in let b = times-append c before behind in let d = below-next c n in
    let s : below c (n + 1) ≡ below c (suc n) = ap (below c) (omega arith) in omega arith in
    let A : List B = flat_map f before in let D : List B = flat_map f behind in let N : List B = flat_map f (numbers n) in
    let split : flat_map f (before ++ behind) ≡ A ++ D = flat_map-append f before behind in
    let whole : (A ++ f n) ++ D ≡ flat_map f xs = append_assoc A (f n) D ∙ (sym (flat_map-append f before (n ∷ behind)) ∙ ap (flat_map f) (sym r.2)) in
    let last : flat_map f (numbers n ++ n ∷ []) ≡ N ++ f n = flat_map-append f (numbers n) (n ∷ []) ∙ ap (λ ys. N ++ ys) (append-nil (f n)) in
    let less : IsPermutation N (A ++ D) = subst (IsPermutation N) split (shuffled f n (before ++ behind) rest) in
    let moved : IsPermutation ((A ++ D) ++ f n) ((A ++ f n) ++ D) =
    subst (λ ys. IsPermutation ys ((A ++ f n) ++ D)) (sym (append_assoc A D (f n)))
    (subst (IsPermutation (A ++ (D ++ f n))) (sym (append_assoc A (f n) D)) (IsPermutation-append_right A (D ++ f n) (f n ++ D) (IsPermutation-append_comm D (f n)))) in
    subst (λ ys. IsPermutation ys (flat_map f xs)) (sym last) (subst (IsPermutation (N ++ f n)) whole
    (IsPermutation-trans (N ++ f n) ((A ++ D) ++ f n) ((A ++ f n) ++ D) (IsPermutation-append_left (f n) N (A ++ D) less) moved))

-- ---- the puts at a stripe, by their tickets

abbrev from_some : {B : Type 0} → (Put → List B) → Option Put → List B
from_some f (Some p) = f p
from_some f None = []

-- the parts of a book's puts, by index
by_places : {B : Type 0} (f : Put → List B) (book : List Put) (n : ℕ) → n ≤ length book → flat_map (λ t. from_some f (slice_get book t)) (numbers n) ≡ flat_map f (take n book)
by_places f book zero h = refl
by_places {B} f book (suc n) h =
    let g : ℕ → List B = λ t. from_some f (slice_get book t) in
    let r = by_places f book n (omega arith) in
    flat_map-append g (numbers n) (n ∷ []) ∙ (ap₂ (λ (x y : List B). x ++ y) r (append-nil (g n)) ∙ more book n (omega arith))
  where
    more : (book : List Put) (n : ℕ) → n < length book → flat_map f (take n book) ++ from_some f (slice_get book n) ≡ flat_map f (take (suc n) book)
    more [] n h = absurd (omega arith)
    more (p ∷ ps) zero h = sym (append-nil (f p))
    more (p ∷ ps) (suc n) h = append_assoc (f p) (flat_map f (take n ps)) (from_some f (slice_get ps n)) ∙ ap (λ (l : List B). f p ++ l) (more ps n (omega arith))

-- the tickets of the puts at stripe j
abbrev if_at : Bool → ℕ → List ℕ → List ℕ
if_at true t ts = t ∷ ts
if_at false t ts = ts

abbrev tickets_at : ℕ → List Put → List ℕ
tickets_at j [] = []
tickets_at j (p ∷ ps) = if_at (j == p.stripe) p.ticket (tickets_at j ps)

tickets_counted : (j t : ℕ) (ps : List Put) → times t (tickets_at j ps) ≡ put_with j t ps
tickets_counted j t [] = refl
tickets_counted j t (p ∷ ps) = go (j == p.stripe) (tickets_counted j t ps)
  where
    go : (b : Bool) → times t (tickets_at j ps) ≡ put_with j t ps → times t (if_at b p.ticket (tickets_at j ps)) ≡ one_if (b && (t == p.ticket)) + put_with j t ps
    go true r = ap (λ (n : ℕ). one_if (t == p.ticket) + n) r
    go false r = omega (arith, r)

module _ {B : Type 0} (f : Put → List B) (j : ℕ) (book : List Put) where
  -- what is known about one of the puts
  pub record IsOne (p : Put) : Type 0 where
    pub here : p.stripe ≡ j → slice_get book p.ticket ≡ Some p
    pub other : p.stripe ≢ j → f p ≡ []

  by_tickets : (ps : List Put) → All IsOne ps → flat_map (λ t. from_some f (slice_get book t)) (tickets_at j ps) ≡ flat_map f ps
  by_tickets [] h = refl
  by_tickets (p ∷ ps) h =
      let g : ℕ → List B = λ t. from_some f (slice_get book t) in
      let r = by_tickets ps (All-tail IsOne p ps h) in let one = All-head IsOne p ps h in
      dite (ℕ_discrete p.stripe j)
      (λ (e : p.stripe ≡ j). ap (λ b. flat_map g (if_at b p.ticket (tickets_at j ps))) (eq-eqb j p.stripe (sym e)) ∙ ap₂ (λ (x y : List B). x ++ y) (ap (from_some f) (one.here e)) r)
      (λ (ne : p.stripe ≢ j). ap (λ b. flat_map g (if_at b p.ticket (tickets_at j ps))) (ne_eqb j p.stripe (λ e. ne (sym e))) ∙ (r ∙ ap (λ (x : List B). x ++ flat_map f ps) (sym (one.other ne))))

  pub in_order : (ps : List Put) → All IsOne ps → ((t : ℕ) → put_with j t ps ≡ below t (length book)) → IsPermutation (flat_map f book) (flat_map f ps)
  in_order ps h counts =
      let g : ℕ → List B = λ t. from_some f (slice_get book t) in
      let all : flat_map g (numbers (length book)) ≡ flat_map f book = by_places f book (length book) (Rattle.std.proofs.Common.le_refl (length book)) ∙ ap (flat_map f) (Rattle.std.proofs.Math.Seq.take-length book) in
      subst (λ x. IsPermutation x (flat_map f ps)) all (subst (IsPermutation (flat_map g (numbers (length book)))) (by_tickets ps h)
      (shuffled g (length book) (tickets_at j ps) (λ t. tickets_counted j t ps ∙ counts t)))

-- ---- contents

inputs_to-inputs_of : (t : ℕ) (ps : List Put) → inputs_to t (inputs_of ps) ≡ flat_map (λ (p : Put). inputs_to t p.batch) ps
inputs_to-inputs_of t [] = refl
inputs_to-inputs_of t (p ∷ ps) = inputs_to-append t p.batch (inputs_of ps) ∙ ap (λ l. inputs_to t p.batch ++ l) (inputs_to-inputs_of t ps)

-- a contribution to another target adds no input
not_to : (t : ℕ) (x : ℕ × Input) (xs : Batch) → x.0 ≢ t → inputs_to t (x ∷ xs) ≡ inputs_to t xs
not_to t x xs ne = ap (λ b. map (λ (input : ℕ × Input). input.1) (Rattle.std.proofs.Common.cond b (x ∷ filter (λ (input : ℕ × Input). input.0 == t) xs) (filter (λ (input : ℕ × Input). input.0 == t) xs))) (ne_eqb x.0 t ne)

module _ (kinds : List Kind) (stripes : ℕ) where
  -- a batch for another stripe has no input for the target
  other_stripe : (t i : ℕ) (xs : Batch) → All (FitsInput kinds stripes i) xs → i ≢ t % stripes → inputs_to t xs ≡ []
  other_stripe t i [] h ne = refl
  other_stripe t i (x ∷ xs) h ne =
      let fits = All-head (FitsInput kinds stripes i) x xs h in
      not_to t x xs (λ e. ne (sym fits.here ∙ ap (λ (n : ℕ). n % stripes) e)) ∙ other_stripe t i xs (All-tail (FitsInput kinds stripes i) x xs h) ne

  -- a target whose kind contains a ListAccum has no inputs
  no_list_input : (t i : ℕ) (kind : Kind) → slice_get kinds t ≡ Some kind → has_no_list (accum_of kind) ≡ false → (xs : Batch) → All (FitsInput kinds stripes i) xs → inputs_to t xs ≡ []
  no_list_input t i kind is lacks [] h = refl
  no_list_input t i kind is lacks (x ∷ xs) h =
      let fits = All-head (FitsInput kinds stripes i) x xs h in
      not_to t x xs (λ e. let same : fits.kind ≡ kind = same_Some fits.kind kind (sym fits.is ∙ (ap (slice_get kinds) e ∙ is)) in
      let d : true ≡ false = sym fits.flat ∙ (ap (λ (k : Kind). has_no_list (accum_of k)) same ∙ lacks) in cc)
      ∙ no_list_input t i kind is lacks xs (All-tail (FitsInput kinds stripes i) x xs h)

  -- each of these puts has a batch that fits its stripe
  abbrev pub FitsPut : Put → Type 0
  FitsPut p = All (FitsInput kinds stripes p.stripe) p.batch

  no_list_inputs : (t : ℕ) (kind : Kind) → slice_get kinds t ≡ Some kind → has_no_list (accum_of kind) ≡ false → (ps : List Put) → All FitsPut ps → flat_map (λ (p : Put). inputs_to t p.batch) ps ≡ []
  no_list_inputs t kind is lacks [] h = refl
  no_list_inputs t kind is lacks (p ∷ ps) h =
      ap₂ (λ (x y : List Input). x ++ y) (no_list_input t p.stripe kind is lacks p.batch (All-head FitsPut p ps h)) (no_list_inputs t kind is lacks ps (All-tail FitsPut p ps h))

  -- a target's content after the puts in its stripe's book is the one after the seat's puts
  pub same_content : (t : ℕ) (kind : Kind) (book ps : List Put) → slice_get kinds t ≡ Some kind → All FitsPut book → All FitsPut ps
      → All (λ (p : Put). p.stripe ≡ t % stripes → slice_get book p.ticket ≡ Some p) ps → ((n : ℕ) → put_with (t % stripes) n ps ≡ below n (length book))
      → content_after kind t (inputs_of book) ≡ content_after kind t (inputs_of ps)
  same_content t kind book ps is fit fits stand counts = go (has_no_list (accum_of kind)) refl
    where
      j : ℕ
      j = t % stripes

      f : Put → List Input
      f p = inputs_to t p.batch

      one : (ps : List Put) → All FitsPut ps → All (λ (p : Put). p.stripe ≡ t % stripes → slice_get book p.ticket ≡ Some p) ps → All (IsOne f j book) ps
      one ps fits stand k d less = record { here = stand k d less; other = λ ne. other_stripe t (get_or ps k d).stripe (get_or ps k d).batch (fits k d less) ne }

      go : (b : Bool) → has_no_list (accum_of kind) ≡ b → content_after kind t (inputs_of book) ≡ content_after kind t (inputs_of ps)
      go true e = order_law (accum_of kind) (model.fresh (accum_of kind)) (given_to t (inputs_of book)) (given_to t (inputs_of ps)) e
          (IsPermutation-map given (inputs_to t (inputs_of book)) (inputs_to t (inputs_of ps))
          (subst (λ x. IsPermutation x (inputs_to t (inputs_of ps))) (sym (inputs_to-inputs_of t book)) (subst (IsPermutation (flat_map f book)) (sym (inputs_to-inputs_of t ps)) (in_order f j book ps (one ps fits stand) counts))))
      go false e = ap (λ l. model.after (accum_of kind) (model.fresh (accum_of kind)) (map given l))
          ((inputs_to-inputs_of t book ∙ no_list_inputs t kind is e book fit) ∙ sym (inputs_to-inputs_of t ps ∙ no_list_inputs t kind is e ps fits))
