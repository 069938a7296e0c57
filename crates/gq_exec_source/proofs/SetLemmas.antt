-- SetLemmas: lists that are sifted and put in order.
use Rattle.std.proofs.Common.{◌≡◌, ℕ, zero, suc, ◌/◌, ◌%◌, ◌^◌, ◌<◌, ◌≤◌, ◌==◌, cond, not, Bool, true, false, ◌||◌, ◌&&◌, List, [], ◌∷◌, ◌++◌, slice_index, bit_and, replicate, filter, refl, sym, ap, ◌∙◌, arith}
use Rattle.std.specs.List.{All}
use Rattle.std.proofs.lemmas.List.Elements.{All-head, All-tail}
use Rattle.std.proofs.lemmas.Bool.Decides.{nat_tests}
use Rattle.gq_graph.specs.Candidates.{among}
use Rattle.gq_rules_typing.specs.Patterns.{by_number}
use Rattle.gq_index.specs.Places.{below, passing}
use Rattle.gq_exec_source.specs.Marks.{is_marked}
use Rattle.gq_exec_source.proofs.MarkLemmas.{numbered, same_below}

or_assoc : (a b c : Bool) → ((a || b) || c) ≡ (a || (b || c))
or_assoc true b c = refl
or_assoc false b c = refl

or_false : (a : Bool) → (a || false) ≡ a
or_false true = refl
or_false false = refl

pub among_append : (xs ys : List ℕ) (v : ℕ) → among (xs ++ ys) v ≡ (among xs v || among ys v)
among_append [] ys v = refl
among_append (x ∷ xs) ys v = ap (λ b. x == v || b) (among_append xs ys v) ∙ sym (or_assoc (x == v) (among xs v) (among ys v))

pub unmarked_none : (n v : ℕ) → is_marked (replicate n 0) v ≡ false
unmarked_none n v = ap (λ w. not (bit_and w (2 ^ (v % 64)) == 0)) (zeros n (v / 64))
  where
    zeros : (n i : ℕ) → slice_index (replicate n 0) i ≡ 0
    zeros zero i = refl
    zeros (suc n) zero = refl
    zeros (suc n) (suc i) = zeros n i

-- the elements that pass two tests
filter_twice : (p q : ℕ → Bool) (xs : List ℕ) → filter (λ v. q v && p v) xs ≡ filter p (filter q xs)
filter_twice p q [] = refl
filter_twice p q (x ∷ xs) = by (q x) (p x) refl (filter_twice p q xs)
  where
    by : (b c : Bool) → p x ≡ c → filter (λ v. q v && p v) xs ≡ filter p (filter q xs)
        → cond (b && c) (x ∷ filter (λ v. q v && p v) xs) (filter (λ v. q v && p v) xs) ≡ filter p (cond b (x ∷ filter q xs) (filter q xs))
    by true true e rest = ap (λ l. x ∷ l) rest ∙ ap (λ b. cond b (x ∷ filter p (filter q xs)) (filter p (filter q xs))) (sym e)
    by true false e rest = rest ∙ ap (λ b. cond b (x ∷ filter p (filter q xs)) (filter p (filter q xs))) (sym e)
    by false c e rest = rest

passing_twice : (p q : ℕ → Bool) (n : ℕ) → passing (λ v. q v && p v) n ≡ filter p (passing q n)
unfolding passing
passing_twice p q n = filter_twice p q (below n)

the_same : (x v : ℕ) → (x == v) ≡ true → x ≡ v
the_same x v h = grind (arith, nat_tests)

among_filter : (p : ℕ → Bool) (xs : List ℕ) (v : ℕ) → among (filter p xs) v ≡ (among xs v && p v)
among_filter p [] v = refl
among_filter p (x ∷ xs) v = by (p x) refl (x == v) refl (among_filter p xs v)
  where
    none : (c : Bool) → p v ≡ false → (c && p v) ≡ p v
    none true q = refl
    none false q = sym q

    by : (b : Bool) → p x ≡ b → (c : Bool) → (x == v) ≡ c → among (filter p xs) v ≡ (among xs v && p v) → among (cond b (x ∷ filter p xs) (filter p xs)) v ≡ ((c || among xs v) && p v)
    by true e true d rest = ap (λ c. c || among (filter p xs) v) d ∙ sym e ∙ ap p (the_same x v d)
    by true e false d rest = ap (λ c. c || among (filter p xs) v) d ∙ rest
    by false e true d rest = rest ∙ none (among xs v) (sym (ap p (the_same x v d)) ∙ e)
    by false e false d rest = rest

-- sifting and putting in order are one
pub sifted_order : (p : ℕ → Bool) (xs : List ℕ) (n : ℕ) → ((v : ℕ) → n ≤ v → among xs v ≡ false) → by_number (filter p xs) ≡ filter p (by_number xs)
sifted_order p xs n h =
    numbered (filter p xs) n (λ v l. among_filter p xs v ∙ ap (λ c. c && p v) (h v l))
    ∙ same_below (among (filter p xs)) (λ v. among xs v && p v) n (λ v l. among_filter p xs v)
    ∙ passing_twice p (among xs) n ∙ ap (filter p) (sym (numbered xs n h))

pub none_above : (xs : List ℕ) (n : ℕ) → All (λ v. v < n) xs → (v : ℕ) → n ≤ v → among xs v ≡ false
none_above [] n h v l = refl
none_above (x ∷ xs) n h v l = ap (λ b. b || among xs v) (apart (All-head (λ w. w < n) x xs h)) ∙ none_above xs n (All-tail (λ w. w < n) x xs h) v l
  where
    apart : x < n → (x == v) ≡ false
    apart k = grind (arith, nat_tests)
