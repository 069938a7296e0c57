-- The laws of contents, one clause for each kind: order, cutting, merging.
use Rattle.std.proofs.Common.{◌≡◌, ◌+◌, pos, ◌+ℤ◌, ◌||◌, ◌&&◌, Bool, true, false, List, [], ◌∷◌, ◌++◌, map, length, take, refl, sym, ap, ap₂, ◌∙◌, append_assoc, length-append, arith}
use Rattle.std.specs.Int.{int_max, int_min}
use Rattle.std.proofs.lemmas.Int.{ints, clamps}
use Rattle.std.proofs.lemmas.Grind.{flat_map-append}
use Rattle.gq_value.specs.Val.{Val}
use Rattle.gq_value.specs.Order.{place}
use Rattle.gq_value.specs.Accums.{Accum, SumAccum, MinAccum, MaxAccum, OrAccum, AndAccum, BitwiseOrAccum, BitwiseAndAccum, AvgAccum, SetAccum, BagAccum, ListAccum, MapAccum, GroupByAccum, HeapAccum, Parts, no_part, part_and, Given, Givens}
use Rattle.gq_value.specs.Arithmetic.{whole}
use Rattle.gq_value.specs.Typed.{has_no_list, have_no_list}
use Rattle.gq_accum_laws.specs.Gather.{into, put, sorted, distinct}
use Rattle.gq_accum_laws.specs.Holds.{Holds, HoldsEach, row_cmp, heap_cmp}
use Rattle.gq_accum_laws.specs.Inputs.{value_of, truth, values, numbers, total, either_bits, both_bits, row_of, rows_in, own_of, own, first, rest}
use Rattle.gq_accum_laws.specs.After.{after, after_each, merged, merged_each}
use Rattle.gq_accum_laws.specs.Laws.{OrderLaw}
use Rattle.gq_accum_laws.proofs.Shuffles.{from_permutation, Shuffle, map_shuffled, behind, length_shuffled, into_shuffled, into_cut, flat_shuffled, turned}
use Rattle.gq_accum_laws.proofs.GatherLaws.{gather_cut, gather_part, gather_shuffled}
use Rattle.gq_accum_laws.proofs.TopLaws.{top_cut, top_part}
use Rattle.gq_accum_laws.proofs.NumberLaws.{sum_commutes, min_commutes, max_commutes, or_commutes, and_commutes, either_commutes, both_commutes, or_turns, and_turns, either_turns, both_turns, or_groups, and_groups, either_groups, both_groups, total-append}
use Rattle.gq_accum_laws.proofs.RowLaws.{place_linear, row_linear, heap_linear}

pub both : (a b : Bool) → (a && b) ≡ true → (a ≡ true) × (b ≡ true)
both true b h = (refl, h)
both false b h = absurd (cc h)

-- ---- every order

total_shuffled : {xs ys : List Given} → Shuffle xs ys → total (numbers xs) ≡ total (numbers ys)
total_shuffled s = into_shuffled ◌+ℤ◌ sum_commutes (map_shuffled (λ x. whole (value_of x)) s) (pos 0)

mutual
  pub after_shuffled : (k : Accum) (c : Holds k) {xs ys : List Given} → has_no_list k ≡ true → Shuffle xs ys → after k c xs ≡ after k c ys
  after_shuffled (SumAccum n) c h s = ap (λ t. c +ℤ t) (total_shuffled s)
  after_shuffled (MinAccum n) c h s = into_shuffled int_min min_commutes (map_shuffled (λ x. whole (value_of x)) s) c
  after_shuffled (MaxAccum n) c h s = into_shuffled int_max max_commutes (map_shuffled (λ x. whole (value_of x)) s) c
  after_shuffled OrAccum c h s = into_shuffled ◌||◌ or_commutes (map_shuffled (λ x. truth (value_of x)) s) c
  after_shuffled AndAccum c h s = into_shuffled ◌&&◌ and_commutes (map_shuffled (λ x. truth (value_of x)) s) c
  after_shuffled BitwiseOrAccum c h s = into_shuffled either_bits either_commutes (map_shuffled (λ x. whole (value_of x)) s) c
  after_shuffled BitwiseAndAccum c h s = into_shuffled both_bits both_commutes (map_shuffled (λ x. whole (value_of x)) s) c
  after_shuffled AvgAccum c h s = ap₂ (λ m n. (m, n)) (ap (λ t. c.0 +ℤ t) (total_shuffled s)) (ap (λ t. c.1 + t) (length_shuffled s))
  after_shuffled (SetAccum b) c h s = gather_shuffled place place_linear false (behind c (map_shuffled value_of s))
  after_shuffled (BagAccum b) c h s = gather_shuffled place place_linear true (behind c (map_shuffled value_of s))
  after_shuffled (ListAccum b) c h s = absurd (cc h)
  after_shuffled (MapAccum b k) c {xs = xs} {ys = ys} h s =
      let keys = gather_shuffled row_cmp row_linear false (behind c.0 (flat_shuffled row_of s)) in
      let at : (q : List Val) → after k (c.1 q) (map first (own q xs)) ≡ after k (c.1 q) (map first (own q ys)) = λ q. after_shuffled k (c.1 q) h (map_shuffled first (flat_shuffled (own_of q) s)) in
      λ i. (keys i, λ q. at q i)
  after_shuffled (GroupByAccum ks ps) c {xs = xs} {ys = ys} h s =
      let keys = gather_shuffled row_cmp row_linear false (behind c.0 (flat_shuffled row_of s)) in
      let at : (q : List Val) → after_each ps (c.1 q) (own q xs) ≡ after_each ps (c.1 q) (own q ys) = λ q. each_shuffled ps (c.1 q) h (flat_shuffled (own_of q) s) in
      λ i. (keys i, λ q. at q i)
  after_shuffled (HeapAccum b n by) c h s = ap (take n) (gather_shuffled (heap_cmp by) (heap_linear by) true (behind c (map_shuffled value_of s)))

  pub each_shuffled : (ps : Parts) (c : HoldsEach ps) {xs ys : List Givens} → have_no_list ps ≡ true → Shuffle xs ys → after_each ps c xs ≡ after_each ps c ys
  each_shuffled no_part c h s = refl
  each_shuffled (part_and name k ps) c h s =
      let p = both (has_no_list k) (have_no_list ps) h in
      ap₂ (λ a b. (a, b)) (after_shuffled k c.0 p.0 (map_shuffled first s)) (each_shuffled ps c.1 p.1 (map_shuffled rest s))

pub order_law : OrderLaw
order_law k c xs ys h p = after_shuffled k c h (from_permutation xs ys p)

-- ---- one list of inputs after another

pub map_append : {A B : Type 0} (f : A → B) (xs ys : List A) → map f (xs ++ ys) ≡ map f xs ++ map f ys
map_append f [] ys = refl
map_append f (x ∷ xs) ys = ap (λ l. f x ∷ l) (map_append f xs ys)

total_numbers : (xs ys : List Given) → total (numbers (xs ++ ys)) ≡ total (numbers xs) +ℤ total (numbers ys)
total_numbers xs ys = ap total (map_append (λ x. whole (value_of x)) xs ys) ∙ total-append (numbers xs) (numbers ys)

-- gathered by a step that commutes, in two parts
folded_cut : {A B : Type 0} (f : A → B → B) → ((x y : A) (z : B) → f x (f y z) ≡ f y (f x z)) → (g : Given → A) (c : B) (xs ys : List Given) → into f (map g ys) (into f (map g xs) c) ≡ into f (map g (xs ++ ys)) c
folded_cut f commutes g c xs ys = sym (ap (λ l. into f l c) (map_append g xs ys) ∙ into_cut f commutes (map g xs) (map g ys) c)

gathered_cut : (many : Bool) (c : List Val) (xs ys : List Given) → into (put place many) (into (put place many) (c ++ values xs) [] ++ values ys) [] ≡ into (put place many) (c ++ values (xs ++ ys)) []
gathered_cut many c xs ys = gather_cut place place_linear many (c ++ values xs) (values ys) ∙ ap (λ l. into (put place many) l []) (append_assoc c (values xs) (values ys) ∙ ap (λ l. c ++ l) (sym (map_append value_of xs ys)))

keys_cut : (c : List (List Val)) (xs ys : List Given) → distinct row_cmp (distinct row_cmp (c ++ rows_in xs) ++ rows_in ys) ≡ distinct row_cmp (c ++ rows_in (xs ++ ys))
keys_cut c xs ys = gather_cut row_cmp row_linear false (c ++ rows_in xs) (rows_in ys) ∙ ap (distinct row_cmp) (append_assoc c (rows_in xs) (rows_in ys) ∙ ap (λ l. c ++ l) (sym (flat_map-append row_of xs ys)))

mutual
  pub after_cut : (k : Accum) (c : Holds k) (xs ys : List Given) → after k (after k c xs) ys ≡ after k c (xs ++ ys)
  after_cut (SumAccum n) c xs ys = let h = total_numbers xs ys in omega (arith, ints, h)
  after_cut (MinAccum n) c xs ys = folded_cut int_min min_commutes (λ x. whole (value_of x)) c xs ys
  after_cut (MaxAccum n) c xs ys = folded_cut int_max max_commutes (λ x. whole (value_of x)) c xs ys
  after_cut OrAccum c xs ys = folded_cut ◌||◌ or_commutes (λ x. truth (value_of x)) c xs ys
  after_cut AndAccum c xs ys = folded_cut ◌&&◌ and_commutes (λ x. truth (value_of x)) c xs ys
  after_cut BitwiseOrAccum c xs ys = folded_cut either_bits either_commutes (λ x. whole (value_of x)) c xs ys
  after_cut BitwiseAndAccum c xs ys = folded_cut both_bits both_commutes (λ x. whole (value_of x)) c xs ys
  after_cut AvgAccum c xs ys =
      let h = total_numbers xs ys in let l = length-append xs ys in
      let a : (c.0 +ℤ total (numbers xs)) +ℤ total (numbers ys) ≡ c.0 +ℤ total (numbers (xs ++ ys)) = omega (arith, ints, h) in
      let b : (c.1 + length xs) + length ys ≡ c.1 + length (xs ++ ys) = omega (arith, l) in
      ap₂ (λ m n. (m, n)) a b
  after_cut (SetAccum b) c xs ys = gathered_cut false c xs ys
  after_cut (BagAccum b) c xs ys = gathered_cut true c xs ys
  after_cut (ListAccum b) c xs ys = append_assoc c (values xs) (values ys) ∙ ap (λ l. c ++ l) (sym (map_append value_of xs ys))
  after_cut (MapAccum b k) c xs ys =
      let keys = keys_cut c.0 xs ys in
      let at : (q : List Val) → after k (after k (c.1 q) (map first (own q xs))) (map first (own q ys)) ≡ after k (c.1 q) (map first (own q (xs ++ ys))) =
      λ q. after_cut k (c.1 q) (map first (own q xs)) (map first (own q ys)) ∙ ap (after k (c.1 q)) (sym (ap (map first) (flat_map-append (own_of q) xs ys) ∙ map_append first (own q xs) (own q ys))) in
      λ i. (keys i, λ q. at q i)
  after_cut (GroupByAccum ks ps) c xs ys =
      let keys = keys_cut c.0 xs ys in
      let at : (q : List Val) → after_each ps (after_each ps (c.1 q) (own q xs)) (own q ys) ≡ after_each ps (c.1 q) (own q (xs ++ ys)) =
      λ q. each_cut ps (c.1 q) (own q xs) (own q ys) ∙ ap (after_each ps (c.1 q)) (sym (flat_map-append (own_of q) xs ys)) in
      λ i. (keys i, λ q. at q i)
  after_cut (HeapAccum b n by) c xs ys = top_cut (heap_cmp by) (heap_linear by) n (c ++ values xs) (values ys)
      ∙ ap (λ l. take n (sorted (heap_cmp by) l)) (append_assoc c (values xs) (values ys) ∙ ap (λ l. c ++ l) (sym (map_append value_of xs ys)))

  pub each_cut : (ps : Parts) (c : HoldsEach ps) (xs ys : List Givens) → after_each ps (after_each ps c xs) ys ≡ after_each ps c (xs ++ ys)
  each_cut no_part c xs ys = refl
  each_cut (part_and name k ps) c xs ys = ap₂ (λ a b. (a, b))
      (after_cut k c.0 (map first xs) (map first ys) ∙ ap (after k c.0) (sym (map_append first xs ys)))
      (each_cut ps c.1 (map rest xs) (map rest ys) ∙ ap (after_each ps c.1) (sym (map_append rest xs ys)))

-- ---- merging

mutual
  pub merged_turns : (k : Accum) (c d : Holds k) → has_no_list k ≡ true → merged k c d ≡ merged k d c
  merged_turns (SumAccum n) c d h = omega (arith, ints)
  merged_turns (MinAccum n) c d h = omega (arith, ints, clamps)
  merged_turns (MaxAccum n) c d h = omega (arith, ints, clamps)
  merged_turns OrAccum c d h = or_turns c d
  merged_turns AndAccum c d h = and_turns c d
  merged_turns BitwiseOrAccum c d h = either_turns c d
  merged_turns BitwiseAndAccum c d h = both_turns c d
  merged_turns AvgAccum c d h =
      let a : c.0 +ℤ d.0 ≡ d.0 +ℤ c.0 = omega (arith, ints) in let b : c.1 + d.1 ≡ d.1 + c.1 = omega arith in ap₂ (λ m n. (m, n)) a b
  merged_turns (SetAccum b) c d h = gather_shuffled place place_linear false (turned c d)
  merged_turns (BagAccum b) c d h = gather_shuffled place place_linear true (turned c d)
  merged_turns (ListAccum b) c d h = absurd (cc h)
  merged_turns (MapAccum b k) c d h =
      let keys = gather_shuffled row_cmp row_linear false (turned c.0 d.0) in
      let at : (q : List Val) → merged k (c.1 q) (d.1 q) ≡ merged k (d.1 q) (c.1 q) = λ q. merged_turns k (c.1 q) (d.1 q) h in
      λ i. (keys i, λ q. at q i)
  merged_turns (GroupByAccum ks ps) c d h =
      let keys = gather_shuffled row_cmp row_linear false (turned c.0 d.0) in
      let at : (q : List Val) → merged_each ps (c.1 q) (d.1 q) ≡ merged_each ps (d.1 q) (c.1 q) = λ q. each_turns ps (c.1 q) (d.1 q) h in
      λ i. (keys i, λ q. at q i)
  merged_turns (HeapAccum b n by) c d h = ap (take n) (gather_shuffled (heap_cmp by) (heap_linear by) true (turned c d))

  pub each_turns : (ps : Parts) (c d : HoldsEach ps) → have_no_list ps ≡ true → merged_each ps c d ≡ merged_each ps d c
  each_turns no_part c d h = refl
  each_turns (part_and name k ps) c d h =
      let p = both (has_no_list k) (have_no_list ps) h in
      ap₂ (λ a b. (a, b)) (merged_turns k c.0 d.0 p.0) (each_turns ps c.1 d.1 p.1)

-- of three lists, in either grouping
gathered_groups : {A : Type 0} (gather : List A → List A) → ((xs ys : List A) → gather (gather xs ++ ys) ≡ gather (xs ++ ys)) → ((xs ys : List A) → gather (xs ++ gather ys) ≡ gather (xs ++ ys))
    → (c d e : List A) → gather (gather (c ++ d) ++ e) ≡ gather (c ++ gather (d ++ e))
gathered_groups gather front back c d e = front (c ++ d) e ∙ ap gather (append_assoc c d e) ∙ sym (back c (d ++ e))

mutual
  pub merged_groups : (k : Accum) (c d e : Holds k) → merged k (merged k c d) e ≡ merged k c (merged k d e)
  merged_groups (SumAccum n) c d e = omega (arith, ints)
  merged_groups (MinAccum n) c d e = omega (arith, ints, clamps)
  merged_groups (MaxAccum n) c d e = omega (arith, ints, clamps)
  merged_groups OrAccum c d e = or_groups c d e
  merged_groups AndAccum c d e = and_groups c d e
  merged_groups BitwiseOrAccum c d e = either_groups c d e
  merged_groups BitwiseAndAccum c d e = both_groups c d e
  merged_groups AvgAccum c d e =
      let a : (c.0 +ℤ d.0) +ℤ e.0 ≡ c.0 +ℤ (d.0 +ℤ e.0) = omega (arith, ints) in
      let b : (c.1 + d.1) + e.1 ≡ c.1 + (d.1 + e.1) = omega arith in
      ap₂ (λ m n. (m, n)) a b
  merged_groups (SetAccum b) c d e = gathered_groups (distinct place) (gather_cut place place_linear false) (gather_part place place_linear false) c d e
  merged_groups (BagAccum b) c d e = gathered_groups (sorted place) (gather_cut place place_linear true) (gather_part place place_linear true) c d e
  merged_groups (ListAccum b) c d e = append_assoc c d e
  merged_groups (MapAccum b k) c d e =
      let keys = gathered_groups (distinct row_cmp) (gather_cut row_cmp row_linear false) (gather_part row_cmp row_linear false) c.0 d.0 e.0 in
      let at : (q : List Val) → merged k (merged k (c.1 q) (d.1 q)) (e.1 q) ≡ merged k (c.1 q) (merged k (d.1 q) (e.1 q)) = λ q. merged_groups k (c.1 q) (d.1 q) (e.1 q) in
      λ i. (keys i, λ q. at q i)
  merged_groups (GroupByAccum ks ps) c d e =
      let keys = gathered_groups (distinct row_cmp) (gather_cut row_cmp row_linear false) (gather_part row_cmp row_linear false) c.0 d.0 e.0 in
      let at : (q : List Val) → merged_each ps (merged_each ps (c.1 q) (d.1 q)) (e.1 q) ≡ merged_each ps (c.1 q) (merged_each ps (d.1 q) (e.1 q)) = λ q. each_groups ps (c.1 q) (d.1 q) (e.1 q) in
      λ i. (keys i, λ q. at q i)
  merged_groups (HeapAccum b n by) c d e = gathered_groups (λ l. take n (sorted (heap_cmp by) l)) (top_cut (heap_cmp by) (heap_linear by) n) (top_part (heap_cmp by) (heap_linear by) n) c d e

  pub each_groups : (ps : Parts) (c d e : HoldsEach ps) → merged_each ps (merged_each ps c d) e ≡ merged_each ps c (merged_each ps d e)
  each_groups no_part c d e = refl
  each_groups (part_and name k ps) c d e = ap₂ (λ a b. (a, b)) (merged_groups k c.0 d.0 e.0) (each_groups ps c.1 d.1 e.1)
