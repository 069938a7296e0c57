-- How large contents get: from one that fits, by each input, and when two are merged.
use Rattle.std.proofs.Common.{if◌then◌else◌, ◌≡◌, ℕ, suc, ◌+◌, ◌*◌, ◌^◌, ◌<◌, ◌≤◌, ℤ, nat_abs, ◌||◌, ◌&&◌, Bool, true, false, List, [], ◌∷◌, ◌++◌, map, length, Ordering, Less, Equal, Greater, refl, sym, ap, ap₂, ◌∙◌, subst, arith}
use Rattle.std.specs.List.{list_all}
use Rattle.std.specs.Ordering.{is_eq}
use Rattle.std.specs.Prelude.{nat_lt, int_le}
use Rattle.std.proofs.lemmas.Int.{ints}
use Rattle.gq_value.specs.declared.kind.Number.{Number}
use Rattle.gq_value.specs.declared.kind.Number.TheVariants as number
use Rattle.gq_value.specs.Val.{Val, Int, UInt, Truth, Text, Vertex, Tuple, Fraction}
use Rattle.gq_value.specs.Accums.{Base, Accum, SumAccum, MinAccum, MaxAccum, OrAccum, AndAccum, BitwiseOrAccum, BitwiseAndAccum, AvgAccum, SetAccum, BagAccum, ListAccum, MapAccum, GroupByAccum, HeapAccum, Parts, no_part, part_and, Given, One, Keyed, Givens, no_given, given_and}
use Rattle.gq_value.specs.Arithmetic.{least, most, is_within, whole}
use Rattle.gq_value.specs.Typed.{row_is_of, suits, suit}
use Rattle.gq_accum_laws.specs.Gather.{among}
use Rattle.gq_accum_laws.specs.Holds.{Holds, HoldsEach, row_cmp}
use Rattle.gq_accum_laws.specs.Inputs.{value_of, numbers, total, own, first, rest}
use Rattle.gq_accum_laws.specs.After.{fresh, fresh_each, after, after_each, merged, merged_each}
use Rattle.gq_accum_laws.specs.Fits.{fits, fit, Fed, FedEach, IsProper, AreProper}
use Rattle.gq_accum_laws.specs.Laws.{FedLaw}
use Rattle.gq_accum_laws.proofs.RowLaws.{row_linear, own_few}
use Rattle.gq_accum_laws.proofs.KindLaws.{both}

false_apart : {P : Type 0} → false ≡ true → P
false_apart h = absurd (cc h)

-- ---- numbers within their types

pub fitting_abs : (n : Number) (x : ℤ) → is_within n x ≡ true → nat_abs x ≤ 1 * 2 ^ 64
fitting_abs number.Int x h = let p = both (int_le (least number.Int) x) (int_le x (most number.Int)) h in let a = p.0 in let b = p.1 in grind (arith, ints)
fitting_abs number.UInt x h = let p = both (int_le (least number.UInt) x) (int_le x (most number.UInt)) h in let a = p.0 in let b = p.1 in grind (arith, ints)

below_is : (m n : ℕ) → nat_lt m n ≡ true → m < n
below_is m n h = grind arith

small_int : (v : Val) → suits AvgAccum (One v) ≡ true → nat_abs (whole v) ≤ 1 * 2 ^ 64
small_int (Int x) h = fitting_abs number.Int x h
small_int (UInt n) h = false_apart h
small_int (Truth b) h = false_apart h
small_int (Text s) h = false_apart h
small_int (Vertex n) h = false_apart h
small_int (Tuple row) h = false_apart h
small_int (Fraction s n) h = false_apart h

small_uint : (v : Val) → suits (SumAccum number.UInt) (One v) ≡ true → nat_abs (whole v) ≤ 1 * 2 ^ 64
small_uint (Int x) h = false_apart h
small_uint (UInt n) h = let b = below_is n (2 ^ 64) h in omega (arith, b)
small_uint (Truth b) h = false_apart h
small_uint (Text s) h = false_apart h
small_uint (Vertex n) h = false_apart h
small_uint (Tuple row) h = false_apart h
small_uint (Fraction s n) h = false_apart h

small_sum : (n : Number) (x : Given) → suits (SumAccum n) x ≡ true → nat_abs (whole (value_of x)) ≤ 1 * 2 ^ 64
small_sum number.Int (One v) h = small_int v h
small_sum number.UInt (One v) h = small_uint v h
small_sum n (Keyed row xs) h = false_apart h

small_average : (x : Given) → suits AvgAccum x ≡ true → nat_abs (whole (value_of x)) ≤ 1 * 2 ^ 64
small_average (One v) h = small_int v h
small_average (Keyed row xs) h = false_apart h

total_small : (takes : Given → Bool) → ((x : Given) → takes x ≡ true → nat_abs (whole (value_of x)) ≤ 1 * 2 ^ 64) → (xs : List Given) → list_all takes xs ≡ true → nat_abs (total (numbers xs)) ≤ length xs * 2 ^ 64
total_small takes small [] h = omega arith
total_small takes small (x ∷ xs) h =
    let p = both (takes x) (list_all takes xs) h in
    let a = small x p.0 in let b = total_small takes small xs p.1 in
    omega (arith, ints, a, b)

-- ---- from fewer inputs to more

mutual
  pub fed_more : (k : Accum) (c : Holds k) (f g : ℕ) → f ≤ g → Fed k c f → Fed k c g
  fed_more (SumAccum n) c f g l h = omega (arith, l, h)
  fed_more (MinAccum n) c f g l h = tt
  fed_more (MaxAccum n) c f g l h = tt
  fed_more OrAccum c f g l h = tt
  fed_more AndAccum c f g l h = tt
  fed_more BitwiseOrAccum c f g l h = tt
  fed_more BitwiseAndAccum c f g l h = tt
  fed_more AvgAccum c f g l h = let a = h.0 in let b = h.1 in (omega (arith, l, a), omega (arith, l, b))
  fed_more (SetAccum b) c f g l h = tt
  fed_more (BagAccum b) c f g l h = tt
  fed_more (ListAccum b) c f g l h = tt
  fed_more (MapAccum b k) c f g l h = λ q. fed_more k (c.1 q) f g l (h q)
  fed_more (GroupByAccum ks ps) c f g l h = λ q. each_more ps (c.1 q) f g l (h q)
  fed_more (HeapAccum b n by) c f g l h = tt

  pub each_more : (ps : Parts) (c : HoldsEach ps) (f g : ℕ) → f ≤ g → FedEach ps c f → FedEach ps c g
  each_more no_part c f g l h = tt
  each_more (part_and name k ps) c f g l h = (fed_more k c.0 f g l h.0, each_more ps c.1 f g l h.1)

mutual
  pub fed_fresh : (k : Accum) → Fed k (fresh k) 0
  fed_fresh (SumAccum n) = omega arith
  fed_fresh (MinAccum n) = tt
  fed_fresh (MaxAccum n) = tt
  fed_fresh OrAccum = tt
  fed_fresh AndAccum = tt
  fed_fresh BitwiseOrAccum = tt
  fed_fresh BitwiseAndAccum = tt
  fed_fresh AvgAccum = (omega arith, omega arith)
  fed_fresh (SetAccum b) = tt
  fed_fresh (BagAccum b) = tt
  fed_fresh (ListAccum b) = tt
  fed_fresh (MapAccum b k) = λ q. fed_fresh k
  fed_fresh (GroupByAccum ks ps) = λ q. each_fresh ps
  fed_fresh (HeapAccum b n by) = tt

  pub each_fresh : (ps : Parts) → FedEach ps (fresh_each ps) 0
  each_fresh no_part = tt
  each_fresh (part_and name k ps) = (fed_fresh k, each_fresh ps)

-- ---- contents that fit

all_among : (test : List Val → Bool) (q : List Val) (c : List (List Val)) → list_all test c ≡ true → among row_cmp q c ≡ true → test q ≡ true
all_among test q [] h g = false_apart g
all_among test q (x ∷ c) h g =
    let p = both (test x) (list_all test c) h in
    by (row_cmp q x) refl (all_among test q c p.1) p.0 g
  where
    by : (o : Ordering) → row_cmp q x ≡ o → (among row_cmp q c ≡ true → test q ≡ true) → test x ≡ true → (is_eq o || among row_cmp q c) ≡ true → test q ≡ true
    by Less e r t g = r g
    by Equal e r t g = ap test (row_linear.only q x e) ∙ t
    by Greater e r t g = r g

mutual
  pub fed_fitting : (k : Accum) (c : Holds k) → IsProper k c → fits k c ≡ true → Fed k c 1
  fed_fitting (SumAccum n) c p h = fitting_abs n c h
  fed_fitting (MinAccum n) c p h = tt
  fed_fitting (MaxAccum n) c p h = tt
  fed_fitting OrAccum c p h = tt
  fed_fitting AndAccum c p h = tt
  fed_fitting BitwiseOrAccum c p h = tt
  fed_fitting BitwiseAndAccum c p h = tt
  fed_fitting AvgAccum c p h =
      let a = both (is_within number.Int c.0) (nat_lt c.1 (2 ^ 63)) h in
      let b = below_is c.1 (2 ^ 63) a.1 in
      (fitting_abs number.Int c.0 a.0, omega (arith, b))
  fed_fitting (SetAccum b) c p h = tt
  fed_fitting (BagAccum b) c p h = tt
  fed_fitting (ListAccum b) c p h = tt
  fed_fitting (MapAccum b k) c p h = λ q. by q (among row_cmp q c.0) refl (fed_fitting k (c.1 q) (p.2 q))
    where
      by : (q : List Val) (b : Bool) → among row_cmp q c.0 ≡ b → (fits k (c.1 q) ≡ true → Fed k (c.1 q) 1) → Fed k (c.1 q) 1
      by q true e r = r (all_among (λ q. fits k (c.1 q)) q c.0 h e)
      by q false e r = subst (λ (d : Holds k). Fed k d 1) (sym (p.1 q e)) (fed_more k (fresh k) 0 1 (omega arith) (fed_fresh k))
  fed_fitting (GroupByAccum ks ps) c p h = λ q. by q (among row_cmp q c.0) refl (each_fitting ps (c.1 q) (p.2 q))
    where
      by : (q : List Val) (b : Bool) → among row_cmp q c.0 ≡ b → (fit ps (c.1 q) ≡ true → FedEach ps (c.1 q) 1) → FedEach ps (c.1 q) 1
      by q true e r = r (all_among (λ q. fit ps (c.1 q)) q c.0 h e)
      by q false e r = subst (λ (d : HoldsEach ps). FedEach ps d 1) (sym (p.1 q e)) (each_more ps (fresh_each ps) 0 1 (omega arith) (each_fresh ps))
  fed_fitting (HeapAccum b n by) c p h = tt

  pub each_fitting : (ps : Parts) (c : HoldsEach ps) → AreProper ps c → fit ps c ≡ true → FedEach ps c 1
  each_fitting no_part c p h = tt
  each_fitting (part_and name k ps) c p h =
      let a = both (fits k c.0) (fit ps c.1) h in
      (fed_fitting k c.0 p.0 a.0, each_fitting ps c.1 p.1 a.1)

-- ---- inputs below their keys

-- an input to a map, and one to a group's parts
map_suits : (b : Base) (k : Accum) (row : List Val) (ys : Givens) → suits (MapAccum b k) (Keyed row ys) ≡ true → suits k (first ys) ≡ true
map_suits b k row no_given h = false_apart h
map_suits b k row (given_and x no_given) h = (both (row_is_of (b ∷ []) row) (suits k x) h).1
map_suits b k row (given_and x (given_and y ys)) h = false_apart h

own_suits : (b : Base) (k : Accum) (q : List Val) (xs : List Given) → list_all (suits (MapAccum b k)) xs ≡ true → list_all (suits k) (map first (own q xs)) ≡ true
own_suits b k q [] h = refl
own_suits b k q (One v ∷ xs) h = false_apart h
own_suits b k q (Keyed row ys ∷ xs) h =
    let p = both (suits (MapAccum b k) (Keyed row ys)) (list_all (suits (MapAccum b k)) xs) h in
    by (is_eq (row_cmp q row)) (map_suits b k row ys p.0) (own_suits b k q xs p.1)
  where
    by : (d : Bool) → suits k (first ys) ≡ true → list_all (suits k) (map first (own q xs)) ≡ true → list_all (suits k) (map first ((if d then ys ∷ [] else []) ++ own q xs)) ≡ true
    by true s r = ap₂ ◌&&◌ s r
    by false s r = r

own_suit : (ks : List (List ℕ × Base)) (ps : Parts) (q : List Val) (xs : List Given) → list_all (suits (GroupByAccum ks ps)) xs ≡ true → list_all (suit ps) (own q xs) ≡ true
own_suit ks ps q [] h = refl
own_suit ks ps q (One v ∷ xs) h = false_apart h
own_suit ks ps q (Keyed row ys ∷ xs) h =
    let p = both (suits (GroupByAccum ks ps) (Keyed row ys)) (list_all (suits (GroupByAccum ks ps)) xs) h in
    let s = both (row_is_of (map (λ k. k.1) ks) row) (suit ps ys) p.0 in
    by (is_eq (row_cmp q row)) s.1 (own_suit ks ps q xs p.1)
  where
    by : (d : Bool) → suit ps ys ≡ true → list_all (suit ps) (own q xs) ≡ true → list_all (suit ps) ((if d then ys ∷ [] else []) ++ own q xs) ≡ true
    by true s r = ap₂ ◌&&◌ s r
    by false s r = r

parts_suit : (name : List ℕ) (k : Accum) (ps : Parts) (xs : List Givens) → list_all (suit (part_and name k ps)) xs ≡ true → (list_all (suits k) (map first xs) ≡ true) × (list_all (suit ps) (map rest xs) ≡ true)
parts_suit name k ps [] h = (refl, refl)
parts_suit name k ps (no_given ∷ xs) h = false_apart h
parts_suit name k ps (given_and x ys ∷ xs) h =
    let p = both (suits k x && suit ps ys) (list_all (suit (part_and name k ps)) xs) h in
    let s = both (suits k x) (suit ps ys) p.0 in
    let r = parts_suit name k ps xs p.1 in
    (ap₂ ◌&&◌ s.0 r.0, ap₂ ◌&&◌ s.1 r.1)

length_map : {A B : Type 0} (f : A → B) (xs : List A) → length (map f xs) ≡ length xs
length_map f [] = refl
length_map f (x ∷ xs) = ap suc (length_map f xs)

-- ---- after inputs, and merged

mutual
  pub fed_after : (k : Accum) (c : Holds k) (f : ℕ) (xs : List Given) → list_all (suits k) xs ≡ true → Fed k c f → Fed k (after k c xs) (f + length xs)
  fed_after (SumAccum n) c f xs h e = let t = total_small (suits (SumAccum n)) (small_sum n) xs h in omega (arith, ints, t, e)
  fed_after (MinAccum n) c f xs h e = tt
  fed_after (MaxAccum n) c f xs h e = tt
  fed_after OrAccum c f xs h e = tt
  fed_after AndAccum c f xs h e = tt
  fed_after BitwiseOrAccum c f xs h e = tt
  fed_after BitwiseAndAccum c f xs h e = tt
  fed_after AvgAccum c f xs h e =
      let t = total_small (suits AvgAccum) small_average xs h in let a = e.0 in let b = e.1 in
      (omega (arith, ints, t, a), omega (arith, b))
  fed_after (SetAccum b) c f xs h e = tt
  fed_after (BagAccum b) c f xs h e = tt
  fed_after (ListAccum b) c f xs h e = tt
  fed_after (MapAccum b k) c f xs h e = λ q.
      let l = own_few q xs in let m = length_map first (own q xs) in
      fed_more k _ (f + length (map first (own q xs))) (f + length xs) (omega (arith, l, m))
      (fed_after k (c.1 q) f (map first (own q xs)) (own_suits b k q xs h) (e q))
  fed_after (GroupByAccum ks ps) c f xs h e = λ q.
      let l = own_few q xs in
      each_more ps _ (f + length (own q xs)) (f + length xs) (omega (arith, l))
      (each_after ps (c.1 q) f (own q xs) (own_suit ks ps q xs h) (e q))
  fed_after (HeapAccum b n by) c f xs h e = tt

  pub each_after : (ps : Parts) (c : HoldsEach ps) (f : ℕ) (xs : List Givens) → list_all (suit ps) xs ≡ true → FedEach ps c f → FedEach ps (after_each ps c xs) (f + length xs)
  each_after no_part c f xs h e = tt
  each_after (part_and name k ps) c f xs h e =
      let s = parts_suit name k ps xs h in (
        subst (λ (n : ℕ). Fed k (after k c.0 (map first xs)) (f + n)) (length_map first xs) (fed_after k c.0 f (map first xs) s.0 e.0),
        subst (λ (n : ℕ). FedEach ps (after_each ps c.1 (map rest xs)) (f + n)) (length_map rest xs) (each_after ps c.1 f (map rest xs) s.1 e.1),
      )

mutual
  pub fed_merged : (k : Accum) (c d : Holds k) (f g : ℕ) → Fed k c f → Fed k d g → Fed k (merged k c d) (f + g)
  fed_merged (SumAccum n) c d f g h e = omega (arith, ints, h, e)
  fed_merged (MinAccum n) c d f g h e = tt
  fed_merged (MaxAccum n) c d f g h e = tt
  fed_merged OrAccum c d f g h e = tt
  fed_merged AndAccum c d f g h e = tt
  fed_merged BitwiseOrAccum c d f g h e = tt
  fed_merged BitwiseAndAccum c d f g h e = tt
  fed_merged AvgAccum c d f g h e =
      let a = h.0 in let b = e.0 in let m = h.1 in let n = e.1 in
      (omega (arith, ints, a, b), omega (arith, m, n))
  fed_merged (SetAccum b) c d f g h e = tt
  fed_merged (BagAccum b) c d f g h e = tt
  fed_merged (ListAccum b) c d f g h e = tt
  fed_merged (MapAccum b k) c d f g h e = λ q. fed_merged k (c.1 q) (d.1 q) f g (h q) (e q)
  fed_merged (GroupByAccum ks ps) c d f g h e = λ q. each_merged ps (c.1 q) (d.1 q) f g (h q) (e q)
  fed_merged (HeapAccum b n by) c d f g h e = tt

  pub each_merged : (ps : Parts) (c d : HoldsEach ps) (f g : ℕ) → FedEach ps c f → FedEach ps d g → FedEach ps (merged_each ps c d) (f + g)
  each_merged no_part c d f g h e = tt
  each_merged (part_and name k ps) c d f g h e = (fed_merged k c.0 d.0 f g h.0 e.0, each_merged ps c.1 d.1 f g h.1 e.1)

pub fed_law : FedLaw
fed_law = record { fitting = fed_fitting; opening = fed_fresh; fed = fed_after; joint = fed_merged; more = fed_more }
