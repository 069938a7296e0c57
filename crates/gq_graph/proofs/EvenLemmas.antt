-- EvenLemmas: spans of one width, of which only the number is stored, before others.
use Rattle.std.proofs.Common.{inl, inr, ℕ, zero, suc, ◌+◌, ◌-◌, ◌*◌, ◌<◌, ◌≤◌, ◌≡◌, List, [], ◌∷◌, ◌++◌, length, get_or, set, take, refl, ap, sym, ◌∙◌, add-one, arith, length-append}
use Rattle.std.specs.Prelude.{◌⊎◌}
use Rattle.std.proofs.lemmas.Bool.{cases_lt}
use Rattle.std.proofs.lemmas.List.{get_or-append_right, get_or_append_left, get_or_push, length_push, set-append_right, take-append-le, take_all, append-nil}
use Rattle.std.proofs.Math.Seq.{take-append-add}
use Rattle.gq_graph.specs.declared.row_values.Span.{Span}
use Rattle.gq_graph.specs.Spans.{even_spans, no_span, span_at}

-- a span of one width
abbrev pub even_one : ℕ → ℕ → Span
even_one k width = record { start = k * width; len = width }

pub even_long : (n w : ℕ) → length (even_spans n w) ≡ n
even_long zero w = refl
even_long (suc n) w = length_push (even_spans n w) (even_one n w) ∙ ap (λ k. k + 1) (even_long n w) ∙ add-one n

pub even_more : (n w : ℕ) → even_spans (n + 1) w ≡ even_spans n w ++ even_one n w ∷ []
even_more n w = ap (λ k. even_spans k w) (add-one n)

even_at : (n w k : ℕ) → k < n → span_at (even_spans n w) k ≡ even_one k w
even_at zero w k low = absurd (omega (arith, low))
even_at (suc n) w k low = elim (cases_lt k n) [
  | inl under ↦ get_or_append_left (even_spans n w) (even_one n w ∷ []) no_span k (omega (arith, under, even_long n w)) ∙ even_at n w k under
  | inr over ↦ let is : n ≡ k = omega (arith, over, low) in
      get_or_push (even_spans n w) (even_one n w) no_span k (even_long n w ∙ is) ∙ ap (λ m. even_one m w) is
]

even_take : (n w k : ℕ) → k ≤ n → take k (even_spans n w) ≡ even_spans k w
even_take zero w zero low = refl
even_take zero w (suc k) low = absurd (omega (arith, low))
even_take (suc n) w k low = elim (cases_lt n k) [
  | inl all ↦ let is : k ≡ suc n = omega (arith, all, low) in
      take_all k (even_spans (suc n) w) (omega (arith, is, even_long (suc n) w)) ∙ sym (ap (λ m. even_spans m w) is)
  | inr few ↦ take-append-le k (even_spans n w) (even_one n w ∷ []) (omega (arith, few, even_long n w)) ∙ even_take n w k few
]

-- all spans
pub all_long : (n w : ℕ) (rest all : List Span) → even_spans n w ++ rest ≡ all → length all ≡ n + length rest
all_long n w rest all view = omega (arith, ap length view, length-append (even_spans n w) rest, even_long n w)

pub all_front : (n w : ℕ) (rest all : List Span) (k : ℕ) → even_spans n w ++ rest ≡ all → k < n → span_at all k ≡ even_one k w
all_front n w rest all k view low =
    sym (ap (λ l. span_at l k) view) ∙ get_or_append_left (even_spans n w) rest no_span k (omega (arith, low, even_long n w)) ∙ even_at n w k low

pub all_back : (n w : ℕ) (rest all : List Span) (k : ℕ) → even_spans n w ++ rest ≡ all → n ≤ k → span_at all k ≡ get_or rest (k - n) no_span
all_back n w rest all k view high = sym (ap (λ l. span_at l k) view) ∙ get_or-append_right (even_spans n w) rest n k no_span (even_long n w) high

pub all_set : (n w : ℕ) (rest all : List Span) (k : ℕ) (s : Span) → even_spans n w ++ rest ≡ all → n ≤ k → even_spans n w ++ set rest (k - n) s ≡ set all k s
all_set n w rest all k s view high = sym (set-append_right (even_spans n w) rest n k s (even_long n w) high) ∙ ap (λ l. set l k s) view

-- only the first spans
pub all_cut : (n w : ℕ) (rest all : List Span) (k m j : ℕ) → even_spans n w ++ rest ≡ all → ((k ≤ n) × (m ≡ k) × (j ≡ 0)) ⊎ ((n ≤ k) × (m ≡ n) × (k ≡ n + j))
    → even_spans m w ++ take j rest ≡ take k all
all_cut n w rest all k m j view (inl few) =
    ap (λ i. even_spans m w ++ take i rest) few.2 ∙ append-nil (even_spans m w) ∙ ap (λ i. even_spans i w) few.1
    ∙ sym (even_take n w k few.0) ∙ sym (take-append-le k (even_spans n w) rest (omega (arith, few.0, even_long n w))) ∙ ap (take k) view
all_cut n w rest all k m j view (inr more) =
    ap (λ i. even_spans i w ++ take j rest) more.1 ∙ sym (take-append-add (even_spans n w) rest j)
    ∙ ap (λ i. take i (even_spans n w ++ rest)) (let e : length (even_spans n w) + j ≡ k = omega (arith, more.2, even_long n w) in e) ∙ ap (take k) view
