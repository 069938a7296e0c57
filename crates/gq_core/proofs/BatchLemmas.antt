-- Lists of batches: all empty, or one of them with one more contribution. `f` maps a stored list to its contents.
use Rattle.std.proofs.Common.{◌≡◌, ℕ, ◌+◌, ◌%◌, ◌<◌, ◌≢◌, cond, List, [], ◌∷◌, ◌++◌, length, map, set, take, replicate, Some, slice_get, sym, ◌∙◌, ap, ap₂, arith, eq-eqb, ne_eqb, length-set}
use Rattle.std.specs.Prelude.{option_map}
use Rattle.std.proofs.lemmas.Option.{same_Some, slice_get-map}
use Rattle.std.proofs.lemmas.List.{append-nil, map-set, map-append, take_more_set, length-map, length-replicate, replicate-append-replicate}
use mathlib.Core.Logic.{dite}
use native.Mathlib.Decide.{ℕ_discrete}
use Rattle.gq_core.specs.Batches.{Gains}
use Rattle.gq_core.proofs.TotalLemmas.{at_same, at_other}

module _ {V X : Type 0} (f : V → List X) where
  -- one more empty list
  pub empty_more : (vs : List V) (n : ℕ) (v : V) → map f vs ≡ replicate n [] → f v ≡ [] → map f (vs ++ v ∷ []) ≡ replicate (n + 1) []
  empty_more vs n v all e = map-append f vs (v ∷ []) ∙ (ap₂ (λ (xs : List (List X)) (x : List X). xs ++ x ∷ []) all e ∙ replicate-append-replicate n 1 [])

  pub empty_count : (vs : List V) (n : ℕ) → map f vs ≡ replicate n [] → length vs ≡ n
  empty_count vs n all = sym (length-map vs f) ∙ (ap length all ∙ length-replicate n [])

  -- one more list is emptied
  pub emptied_more : (vs : List V) (i : ℕ) (v : V) → i < length vs → take i (map f vs) ≡ replicate i [] → f v ≡ [] → take (i + 1) (map f (set vs i v)) ≡ replicate (i + 1) []
  emptied_more vs i v h all e =
      let l : i < length (map f vs) = let k = length-map vs f in omega arith in
      ap (take (i + 1)) (map-set f vs i v) ∙ (take_more_set (map f vs) i (f v) l ∙ (ap₂ (λ (xs : List (List X)) (x : List X). xs ++ x ∷ []) all e ∙ replicate-append-replicate i 1 []))

-- the list at the index of the remainder gains the contribution
pub gained : {V A : Type 0} (f : V → List (ℕ × A)) (vs : List V) (i : ℕ) (old v : V) (target : ℕ) (input : A) → i ≡ target % length vs → slice_get vs i ≡ Some old → f v ≡ f old ++ (target, input) ∷ []
    → Gains (map f vs) (map f (set vs i v)) target input
gained {V} {A} f vs i old v target input place was more = record {
  same = length-map (set vs i v) f ∙ (length-set vs i v ∙ sym (length-map vs f));
  gains = λ j batch at. let here : i ≡ target % length (map f vs) = place ∙ ap (λ (n : ℕ). target % n) (sym (length-map vs f)) in
      let mapped : slice_get (map f vs) i ≡ Some (f old) = slice_get-map f vs i ∙ ap (option_map f) was in
      ap (λ xs. slice_get xs j) (map-set f vs i v) ∙ dite (ℕ_discrete j i)
      (λ (e : j ≡ i). let same : f old ≡ batch = same_Some (f old) batch (sym mapped ∙ (ap (slice_get (map f vs)) (sym e) ∙ at)) in
      ap (slice_get (set (map f vs) i (f v))) e ∙ (at_same (map f vs) i (f old) (f v) mapped ∙ ap Some (more ∙ ap₂ (λ (xs ys : List (ℕ × A)). xs ++ ys) same
      (sym (ap (λ b. cond b ((target, input) ∷ []) []) (eq-eqb (target % length (map f vs)) j (sym (e ∙ here))))))))
      (λ (ne : j ≢ i). at_other (map f vs) i j (f v) ne ∙ (at ∙ ap Some (sym (ap (λ ys. batch ++ ys) (ap (λ b. cond b ((target, input) ∷ []) []) (ne_eqb (target % length (map f vs)) j (λ e. ne (sym e ∙ sym here)))) ∙ append-nil batch))));
}
