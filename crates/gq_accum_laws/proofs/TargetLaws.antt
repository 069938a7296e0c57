-- The number of a target is its place in the list of all targets.
use Rattle.std.proofs.Common.{if◌then◌else◌, ◌≡◌, ℕ, zero, suc, ◌+◌, ◌<◌, Bool, true, false, List, [], ◌∷◌, ◌++◌, map, length, Option, Some, None, refl, sym, ap, ap₂, ◌∙◌, subst, length-append, arith}
use Rattle.std.specs.List.{slice_get, range_with_len}
use Rattle.std.proofs.lemmas.List.FromFn.{length-map-range_with_len}
use Rattle.gq_accum_laws.specs.Targets.{slot_targets, targets_from, target_count, target_number}
use Rattle.gq_accum_laws.specs.Laws.{TargetLaw}

none_apart : {A P : Type 0} (x : A) → None ≡ Some x → P
none_apart x h = absurd (cc h)

get_front : {A : Type 0} (xs ys : List A) (i : ℕ) (x : A) → slice_get xs i ≡ Some x → slice_get (xs ++ ys) i ≡ Some x
get_front [] ys i x h = none_apart x h
get_front (y ∷ xs) ys zero x h = h
get_front (y ∷ xs) ys (suc i) x h = get_front xs ys i x h

get_back : {A : Type 0} (xs ys : List A) (i n : ℕ) → n ≡ length xs + i → slice_get (xs ++ ys) n ≡ slice_get ys i
get_back [] ys i n h = ap (slice_get ys) (omega (arith, h))
get_back (y ∷ xs) ys i zero h = absurd (omega (arith, h))
get_back (y ∷ xs) ys i (suc n) h = get_back xs ys i n (omega (arith, h))

get_range : {A : Type 0} (f : ℕ → A) (a n i : ℕ) → i < n → slice_get (map f (range_with_len a n)) i ≡ Some (f (a + i))
get_range f a zero i h = absurd (omega (arith, h))
get_range f a (suc n) zero h = let e : a ≡ a + 0 = omega arith in ap (λ m. Some (f m)) e
get_range f a (suc n) (suc i) h = let e : (a + 1) + i ≡ a + suc i = omega arith in get_range f (a + 1) n i (omega (arith, h)) ∙ ap (λ m. Some (f m)) e

abbrev size : ℕ → Bool → ℕ
size vertices slot = if slot then vertices else 1

front_length : (vertices base : ℕ) (slot : Bool) → length (slot_targets vertices base slot) ≡ size vertices slot
front_length vertices base true = length-map-range_with_len {X = ℕ × ℕ} (λ v. (base, v)) 0 vertices
front_length vertices base false = refl

all_length : (vertices base : ℕ) (slots : List Bool) → length (targets_from vertices base slots) ≡ target_count vertices slots
all_length vertices base [] = refl
all_length vertices base (slot ∷ slots) =
    length-append (slot_targets vertices base slot) (targets_from vertices (suc base) slots)
    ∙ ap₂ ◌+◌ (front_length vertices base slot) (all_length vertices (suc base) slots)

own_target : (vertices base v : ℕ) (slot : Bool) → v < size vertices slot → slice_get (slot_targets vertices base slot) v ≡ Some (base, v)
own_target vertices base v true h = let e : 0 + v ≡ v = omega arith in get_range {A = ℕ × ℕ} (λ v. (base, v)) 0 vertices v h ∙ ap (λ m. Some (base, m)) e
own_target vertices base v false h = let e : v ≡ 0 = omega (arith, h) in subst (λ (m : ℕ). slice_get (slot_targets vertices base false) m ≡ Some (base, m)) (sym e) refl

at_place : (vertices base : ℕ) (slots : List Bool) (at v : ℕ) (attached : Bool) → slice_get slots at ≡ Some attached → v < size vertices attached
    → slice_get (targets_from vertices base slots) (target_number vertices slots at v) ≡ Some (base + at, v)
at_place vertices base [] at v attached h l = none_apart attached h
at_place vertices base (slot ∷ slots) zero v attached h l =
    let own : v < size vertices slot = subst (λ (o : Option Bool). v < of o) (sym h) l in
    let e : 0 + v ≡ v = omega arith in let b : base ≡ base + 0 = omega arith in
    ap (slice_get (targets_from vertices base (slot ∷ slots))) e
    ∙ get_front (slot_targets vertices base slot) (targets_from vertices (suc base) slots) v (base, v) (own_target vertices base v slot own)
    ∙ ap (λ m. Some (m, v)) b
  where
    of : Option Bool → ℕ
    of None = 0
    of (Some slot) = size vertices slot
at_place vertices base (slot ∷ slots) (suc at) v attached h l =
    let n = front_length vertices base slot in
    let e : suc base + at ≡ base + suc at = omega arith in
    get_back (slot_targets vertices base slot) (targets_from vertices (suc base) slots) (target_number vertices slots at v) (target_number vertices (slot ∷ slots) (suc at) v) (omega (arith, n))
    ∙ at_place vertices (suc base) slots at v attached h l
    ∙ ap (λ m. Some (m, v)) e

pub target_law : TargetLaw
target_law = record {
  count = λ vertices slots. all_length vertices 0 slots;
  place = λ vertices slots at v attached h l. at_place vertices 0 slots at v attached h l ∙ ap (λ m. Some (m, v)) (omega arith);
}
