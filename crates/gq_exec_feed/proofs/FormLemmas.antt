-- FormLemmas: the values in a content stay of the types of its kind.
use Rattle.std.proofs.Common.{if◌then◌else◌, ◌≡◌, ℕ, zero, suc, ◌&&◌, Bool, true, false, List, [], ◌∷◌, ◌++◌, map, take, Ordering, Less, Equal, Greater, refl, ap₂}
use Rattle.std.specs.List.{list_all}
use Rattle.std.specs.Ordering.{is_eq}
use Rattle.gq_value.specs.Val.{Val, Vals, Int, UInt, Truth, Text, Vertex, Tuple, none, more}
use Rattle.gq_value.specs.Order.{place}
use Rattle.gq_value.specs.Accums.{Base, INT, UINT, BOOL, STRING, DATETIME, VERTEX, VERTEX_OF, TUPLE, Bases, no_base, base_and, Accum, SumAccum, MinAccum, MaxAccum, OrAccum, AndAccum, BitwiseOrAccum, BitwiseAndAccum, AvgAccum, SetAccum, BagAccum, ListAccum, MapAccum, GroupByAccum, HeapAccum, Parts, no_part, part_and, Given, One, Keyed, Givens, no_given, given_and}
use Rattle.gq_value.specs.Typed.{is_of, are_of, row_is_of, suits, suit}
use Rattle.gq_accum_laws.specs.Gather.{into, choose, twice, put, sorted}
use Rattle.gq_accum_laws.specs.Holds.{Holds, HoldsEach, row_cmp, heap_cmp}
use Rattle.gq_accum_laws.specs.Inputs.{value_of, values, own, first, rest}
use Rattle.gq_accum_laws.specs.After.{after, after_each}
use Rattle.gq_eval_operand.specs.Sound.{has_form, have_form, HoldsForms, HoldForms}

both : (a b : Bool) → (a && b) ≡ true → (a ≡ true) × (b ≡ true)
both true b h = (refl, h)
both false b h = absurd (cc h)

apart : {P : Type 0} → false ≡ true → P
apart h = absurd (cc h)

-- ---- tests of all items

module _ {A : Type 0} (p : A → Bool) where
  all_append : (xs ys : List A) → list_all p xs ≡ true → list_all p ys ≡ true → list_all p (xs ++ ys) ≡ true
  all_append [] ys h g = g
  all_append (x ∷ xs) ys h g = let b = both (p x) (list_all p xs) h in ap₂ ◌&&◌ b.0 (all_append xs ys b.1 g)

  all_take : (n : ℕ) (xs : List A) → list_all p xs ≡ true → list_all p (take n xs) ≡ true
  all_take zero xs h = refl
  all_take (suc n) [] h = refl
  all_take (suc n) (x ∷ xs) h = let b = both (p x) (list_all p xs) h in ap₂ ◌&&◌ b.0 (all_take n xs b.1)

  all_put : (cmp : A → A → Ordering) (many : Bool) (x : A) (ys : List A) → p x ≡ true → list_all p ys ≡ true → list_all p (put cmp many x ys) ≡ true
  all_put cmp many x [] h g = ap₂ ◌&&◌ h refl
  all_put cmp many x (y ∷ ys) h g = by (cmp x y) many (all_put cmp many x ys h b.1)
    where
      b : (p y ≡ true) × (list_all p ys ≡ true)
      b = both (p y) (list_all p ys) g

      by : (o : Ordering) (m : Bool) → list_all p (put cmp many x ys) ≡ true → list_all p (choose o (x ∷ y ∷ ys) (twice m x (y ∷ ys)) (y ∷ put cmp many x ys)) ≡ true
      by Less m r = ap₂ ◌&&◌ h g
      by Equal true r = ap₂ ◌&&◌ h g
      by Equal false r = g
      by Greater m r = ap₂ ◌&&◌ b.0 r

  all_gathered : (cmp : A → A → Ordering) (many : Bool) (xs : List A) → list_all p xs ≡ true → list_all p (into (put cmp many) xs []) ≡ true
  all_gathered cmp many [] h = refl
  all_gathered cmp many (x ∷ xs) h = let b = both (p x) (list_all p xs) h in all_put cmp many x (into (put cmp many) xs []) b.0 (all_gathered cmp many xs b.1)

-- ---- a value of a type has its form

mutual
  formed : (b : Base) (v : Val) → is_of b v ≡ true → has_form b v ≡ true
  formed INT (Int x) h = refl
  formed UINT (UInt n) h = refl
  formed BOOL (Truth b) h = refl
  formed STRING (Text s) h = refl
  formed DATETIME (Int x) h = refl
  formed VERTEX (Vertex v) h = refl
  formed (VERTEX_OF t) (Vertex v) h = refl
  formed (TUPLE n bs) (Tuple vs) h = formed_all bs vs h
  formed b v h = apart h

  formed_all : (bs : Bases) (vs : Vals) → are_of bs vs ≡ true → have_form bs vs ≡ true
  formed_all no_base none h = refl
  formed_all (base_and b bs) (more v vs) h = let p = both (is_of b v) (are_of bs vs) h in ap₂ ◌&&◌ (formed b v p.0) (formed_all bs vs p.1)
  formed_all bs vs h = apart h

-- inputs of one value each
values_formed : (k : Accum) (b : Base) → ((x : Given) → suits k x ≡ true → is_of b (value_of x) ≡ true) → (xs : List Given) → list_all (suits k) xs ≡ true → list_all (has_form b) (values xs) ≡ true
values_formed k b takes_it [] h = refl
values_formed k b takes_it (x ∷ xs) h = let p = both (suits k x) (list_all (suits k) xs) h in ap₂ ◌&&◌ (formed b (value_of x) (takes_it x p.0)) (values_formed k b takes_it xs p.1)

set_takes : (b : Base) (x : Given) → suits (SetAccum b) x ≡ true → is_of b (value_of x) ≡ true
set_takes b (One v) h = h
set_takes b (Keyed row xs) h = apart h

bag_takes : (b : Base) (x : Given) → suits (BagAccum b) x ≡ true → is_of b (value_of x) ≡ true
bag_takes b (One v) h = h
bag_takes b (Keyed row xs) h = apart h

list_takes : (b : Base) (x : Given) → suits (ListAccum b) x ≡ true → is_of b (value_of x) ≡ true
list_takes b (One v) h = h
list_takes b (Keyed row xs) h = apart h

heap_takes : (b : Base) (n : ℕ) (by : List (ℕ × Bool)) (x : Given) → suits (HeapAccum b n by) x ≡ true → is_of b (value_of x) ≡ true
heap_takes b n by (One v) h = h
heap_takes b n by (Keyed row xs) h = apart h

-- ---- inputs at their keys

map_suits : (b : Base) (k : Accum) (row : List Val) (ys : Givens) → suits (MapAccum b k) (Keyed row ys) ≡ true → suits k (first ys) ≡ true
map_suits b k row no_given h = apart h
map_suits b k row (given_and x no_given) h = (both (row_is_of (b ∷ []) row) (suits k x) h).1
map_suits b k row (given_and x (given_and y ys)) h = apart h

own_suits : (b : Base) (k : Accum) (q : List Val) (xs : List Given) → list_all (suits (MapAccum b k)) xs ≡ true → list_all (suits k) (map first (own q xs)) ≡ true
own_suits b k q [] h = refl
own_suits b k q (One v ∷ xs) h = apart h
own_suits b k q (Keyed row ys ∷ xs) h =
    let p = both (suits (MapAccum b k) (Keyed row ys)) (list_all (suits (MapAccum b k)) xs) h in
    by (is_eq (row_cmp q row)) (map_suits b k row ys p.0) (own_suits b k q xs p.1)
  where
    by : (d : Bool) → suits k (first ys) ≡ true → list_all (suits k) (map first (own q xs)) ≡ true → list_all (suits k) (map first ((if d then ys ∷ [] else []) ++ own q xs)) ≡ true
    by true s r = ap₂ ◌&&◌ s r
    by false s r = r

own_suit : (ks : List (List ℕ × Base)) (ps : Parts) (q : List Val) (xs : List Given) → list_all (suits (GroupByAccum ks ps)) xs ≡ true → list_all (suit ps) (own q xs) ≡ true
own_suit ks ps q [] h = refl
own_suit ks ps q (One v ∷ xs) h = apart h
own_suit ks ps q (Keyed row ys ∷ xs) h =
    let p = both (suits (GroupByAccum ks ps) (Keyed row ys)) (list_all (suits (GroupByAccum ks ps)) xs) h in
    let s = both (row_is_of (map (λ k. k.1) ks) row) (suit ps ys) p.0 in
    by (is_eq (row_cmp q row)) s.1 (own_suit ks ps q xs p.1)
  where
    by : (d : Bool) → suit ps ys ≡ true → list_all (suit ps) (own q xs) ≡ true → list_all (suit ps) ((if d then ys ∷ [] else []) ++ own q xs) ≡ true
    by true s r = ap₂ ◌&&◌ s r
    by false s r = r

parts_suit : (name : List ℕ) (k : Accum) (ps : Parts) (xs : List Givens) → list_all (suit (part_and name k ps)) xs ≡ true → (list_all (suits k) (map first xs) ≡ true) × (list_all (suit ps) (map rest xs) ≡ true)
parts_suit name k ps [] h = (refl, refl)
parts_suit name k ps (no_given ∷ xs) h = apart h
parts_suit name k ps (given_and x ys ∷ xs) h =
    let p = both (suits k x && suit ps ys) (list_all (suit (part_and name k ps)) xs) h in
    let s = both (suits k x) (suit ps ys) p.0 in
    let r = parts_suit name k ps xs p.1 in
    (ap₂ ◌&&◌ s.0 r.0, ap₂ ◌&&◌ s.1 r.1)

-- ---- after inputs

mutual
  pub forms_after : (k : Accum) (c : Holds k) (xs : List Given) → list_all (suits k) xs ≡ true → HoldsForms k c → HoldsForms k (after k c xs)
  forms_after (SumAccum n) c xs h e = tt
  forms_after (MinAccum n) c xs h e = tt
  forms_after (MaxAccum n) c xs h e = tt
  forms_after OrAccum c xs h e = tt
  forms_after AndAccum c xs h e = tt
  forms_after BitwiseOrAccum c xs h e = tt
  forms_after BitwiseAndAccum c xs h e = tt
  forms_after AvgAccum c xs h e = tt
  forms_after (SetAccum b) c xs h e = all_gathered (has_form b) place false (c ++ values xs) (all_append (has_form b) c (values xs) e (values_formed (SetAccum b) b (set_takes b) xs h))
  forms_after (BagAccum b) c xs h e = all_gathered (has_form b) place true (c ++ values xs) (all_append (has_form b) c (values xs) e (values_formed (BagAccum b) b (bag_takes b) xs h))
  forms_after (ListAccum b) c xs h e = all_append (has_form b) c (values xs) e (values_formed (ListAccum b) b (list_takes b) xs h)
  forms_after (MapAccum b k) c xs h e = λ q. forms_after k (c.1 q) (map first (own q xs)) (own_suits b k q xs h) (e q)
  forms_after (GroupByAccum ks ps) c xs h e = λ q. forms_after_each ps (c.1 q) (own q xs) (own_suit ks ps q xs h) (e q)
  forms_after (HeapAccum b n by) c xs h e = all_take (has_form b) n (sorted (heap_cmp by) (c ++ values xs))
      (all_gathered (has_form b) (heap_cmp by) true (c ++ values xs) (all_append (has_form b) c (values xs) e (values_formed (HeapAccum b n by) b (heap_takes b n by) xs h)))

  pub forms_after_each : (ps : Parts) (c : HoldsEach ps) (xs : List Givens) → list_all (suit ps) xs ≡ true → HoldForms ps c → HoldForms ps (after_each ps c xs)
  forms_after_each no_part c xs h e = tt
  forms_after_each (part_and name k ps) c xs h e =
      let s = parts_suit name k ps xs h in (forms_after k c.0 (map first xs) s.0 e.0, forms_after_each ps c.1 (map rest xs) s.1 e.1)
