-- AfterLaws: contents keep to values of their types, for all inputs of their kinds.
use Rattle.std.proofs.Common.{◌≡◌, ℕ, zero, suc, Bool, true, false, List, [], ◌∷◌, ◌++◌, map, take, refl}
use Rattle.std.specs.Prelude.{if◌then◌else◌}
use Rattle.std.specs.List.{list_all}
use Rattle.std.specs.declared.cmp.Ordering.{Ordering}
use Rattle.std.specs.declared.cmp.Ordering.TheVariants.{Less, Equal, Greater}
use Rattle.std.specs.Ordering.{is_eq}
use Rattle.gq_value.specs.Val.{Val}
use Rattle.gq_value.specs.Order.{place}
use Rattle.gq_value.specs.Accums.{Base, Accum, SumAccum, MinAccum, MaxAccum, OrAccum, AndAccum, BitwiseOrAccum, BitwiseAndAccum, AvgAccum, SetAccum, BagAccum, ListAccum, MapAccum, GroupByAccum, HeapAccum, Parts, no_part, part_and, Given, One, Keyed, Givens, no_given, given_and}
use Rattle.gq_rules_typing.specs.Gather.{choose, twice, put, sorted, distinct}
use Rattle.gq_rules_typing.specs.Holds.{Holds, HoldsEach, row_cmp, heap_cmp}
use Rattle.gq_rules_typing.specs.Inputs.{value_of, values, rows_in, own, first, rest}
use Rattle.gq_rules_typing.specs.After.{after, after_each}
use Rattle.gq_rules_typing.specs.Statements.{Bytes}
use Rattle.gq_rules_typing.specs.Sorts.{bases_of}
use Rattle.gq_rules_meaning.specs.Expressions.{World}
use Rattle.gq_rules_meaning.specs.Fitting.{is_value, row_is, HoldsValues, HoldValues}
use Rattle.gq_rules_meaning.specs.Laws.{ContentLaw}
use Rattle.gq_rules_meaning.specs.StateFits.{InputFits, InputsFit, AllOf}
use Rattle.gq_rules_meaning.proofs.AnswerLaws.{and_ok, both_ok}

-- ---- all of a list, gathered into order

module _ {A : Type 0} (p : A → Bool) where
  chosen_all : (o : Ordering) (a b c : List A) → list_all p a ≡ true → list_all p b ≡ true → list_all p c ≡ true → list_all p (choose o a b c) ≡ true
  chosen_all Less a b c h g k = h
  chosen_all Equal a b c h g k = g
  chosen_all Greater a b c h g k = k

  twice_all : (many : Bool) (x : A) (ys : List A) → p x ≡ true → list_all p ys ≡ true → list_all p (twice many x ys) ≡ true
  twice_all true x ys h g = both_ok (p x) (list_all p ys) h g
  twice_all false x ys h g = g

  put_all : (cmp : A → A → Ordering) (many : Bool) (x : A) (ys : List A) → p x ≡ true → list_all p ys ≡ true → list_all p (put cmp many x ys) ≡ true
  put_all cmp many x [] h g = both_ok (p x) true h refl
  put_all cmp many x (y ∷ ys) h g =
      let w = and_ok (p y) (list_all p ys) g in
      chosen_all (cmp x y) (x ∷ y ∷ ys) (twice many x (y ∷ ys)) (y ∷ put cmp many x ys)
      (both_ok (p x) (list_all p (y ∷ ys)) h g) (twice_all many x (y ∷ ys) h g) (both_ok (p y) (list_all p (put cmp many x ys)) w.0 (put_all cmp many x ys h w.1))

  pub sorted_all : (cmp : A → A → Ordering) (xs : List A) → list_all p xs ≡ true → list_all p (sorted cmp xs) ≡ true
  sorted_all cmp [] h = refl
  sorted_all cmp (x ∷ xs) h = let w = and_ok (p x) (list_all p xs) h in put_all cmp true x (sorted cmp xs) w.0 (sorted_all cmp xs w.1)

  pub distinct_all : (cmp : A → A → Ordering) (xs : List A) → list_all p xs ≡ true → list_all p (distinct cmp xs) ≡ true
  distinct_all cmp [] h = refl
  distinct_all cmp (x ∷ xs) h = let w = and_ok (p x) (list_all p xs) h in put_all cmp false x (distinct cmp xs) w.0 (distinct_all cmp xs w.1)

  pub append_all : (xs ys : List A) → list_all p xs ≡ true → list_all p ys ≡ true → list_all p (xs ++ ys) ≡ true
  append_all [] ys h g = g
  append_all (x ∷ xs) ys h g = let w = and_ok (p x) (list_all p xs) h in both_ok (p x) (list_all p (xs ++ ys)) w.0 (append_all xs ys w.1 g)

  pub take_all : (n : ℕ) (xs : List A) → list_all p xs ≡ true → list_all p (take n xs) ≡ true
  take_all zero xs h = refl
  take_all (suc n) [] h = refl
  take_all (suc n) (x ∷ xs) h = let w = and_ok (p x) (list_all p xs) h in both_ok (p x) (list_all p (take n xs)) w.0 (take_all n xs w.1)

module _ {N : Type 0} (world : World N) where
  -- ---- inputs that are one value

  abbrev Ones : Base → Accum → Type 0
  Ones b k = (x : Given) → InputFits world k x → is_value world b (value_of x) ≡ true

  values_all : (b : Base) (k : Accum) → Ones b k → (xs : List Given) → AllOf (InputFits world k) xs → list_all (is_value world b) (values xs) ≡ true
  values_all b k ones [] h = refl
  values_all b k ones (x ∷ xs) h = both_ok (is_value world b (value_of x)) (list_all (is_value world b) (values xs)) (ones x h.0) (values_all b k ones xs h.1)

  one_of_set : (b : Base) → Ones b (SetAccum b)
  one_of_set b (One v) h = h
  one_of_set b (Keyed row xs) h = absurd h

  one_of_bag : (b : Base) → Ones b (BagAccum b)
  one_of_bag b (One v) h = h
  one_of_bag b (Keyed row xs) h = absurd h

  one_of_list : (b : Base) → Ones b (ListAccum b)
  one_of_list b (One v) h = h
  one_of_list b (Keyed row xs) h = absurd h

  one_of_heap : (b : Base) (n : ℕ) (by : List (ℕ × Bool)) → Ones b (HeapAccum b n by)
  one_of_heap b n by (One v) h = h
  one_of_heap b n by (Keyed row xs) h = absurd h

  -- ---- inputs with keys

  map_rows : (b : Base) (k : Accum) (xs : List Given) → AllOf (InputFits world (MapAccum b k)) xs → list_all (row_is world (b ∷ [])) (rows_in xs) ≡ true
  map_rows b k [] h = refl
  map_rows b k (Keyed row (given_and x no_given) ∷ xs) h = both_ok (row_is world (b ∷ []) row) _ h.0.0 (map_rows b k xs h.1)
  map_rows b k (Keyed row no_given ∷ xs) h = absurd h.0
  map_rows b k (Keyed row (given_and x (given_and y ys)) ∷ xs) h = absurd h.0
  map_rows b k (One v ∷ xs) h = absurd h.0

  group_rows : (keys : List (List ℕ × Base)) (ps : Parts) (xs : List Given) → AllOf (InputFits world (GroupByAccum keys ps)) xs → list_all (row_is world (bases_of keys)) (rows_in xs) ≡ true
  group_rows keys ps [] h = refl
  group_rows keys ps (Keyed row ys ∷ xs) h = both_ok (row_is world (bases_of keys) row) _ h.0.0 (group_rows keys ps xs h.1)
  group_rows keys ps (One v ∷ xs) h = absurd h.0

  -- the inputs under one key row
  map_own : (b : Base) (k : Accum) (q : List Val) (xs : List Given) → AllOf (InputFits world (MapAccum b k)) xs → AllOf (InputFits world k) (map first (own q xs))
  map_own b k q [] h = tt
  map_own b k q (Keyed row (given_and x no_given) ∷ xs) h = go (is_eq (row_cmp q row)) (map_own b k q xs h.1)
    where
      go : (t : Bool) → AllOf (InputFits world k) (map first (own q xs)) → AllOf (InputFits world k) (map first ((if t then given_and x no_given ∷ [] else []) ++ own q xs))
      go true g = (h.0.1, g)
      go false g = g
  map_own b k q (Keyed row no_given ∷ xs) h = absurd h.0
  map_own b k q (Keyed row (given_and x (given_and y ys)) ∷ xs) h = absurd h.0
  map_own b k q (One v ∷ xs) h = absurd h.0

  group_own : (keys : List (List ℕ × Base)) (ps : Parts) (q : List Val) (xs : List Given) → AllOf (InputFits world (GroupByAccum keys ps)) xs → AllOf (InputsFit world ps) (own q xs)
  group_own keys ps q [] h = tt
  group_own keys ps q (Keyed row ys ∷ xs) h = go (is_eq (row_cmp q row)) (group_own keys ps q xs h.1)
    where
      go : (t : Bool) → AllOf (InputsFit world ps) (own q xs) → AllOf (InputsFit world ps) ((if t then ys ∷ [] else []) ++ own q xs)
      go true g = (h.0.1, g)
      go false g = g
  group_own keys ps q (One v ∷ xs) h = absurd h.0

  first_of_parts : (name : List ℕ) (k : Accum) (ps : Parts) (xs : List Givens) → AllOf (InputsFit world (part_and name k ps)) xs → AllOf (InputFits world k) (map first xs)
  first_of_parts name k ps [] h = tt
  first_of_parts name k ps (given_and x ys ∷ xs) h = (h.0.0, first_of_parts name k ps xs h.1)
  first_of_parts name k ps (no_given ∷ xs) h = absurd h.0

  rest_of_parts : (name : List ℕ) (k : Accum) (ps : Parts) (xs : List Givens) → AllOf (InputsFit world (part_and name k ps)) xs → AllOf (InputsFit world ps) (map rest xs)
  rest_of_parts name k ps [] h = tt
  rest_of_parts name k ps (given_and x ys ∷ xs) h = (h.0.1, rest_of_parts name k ps xs h.1)
  rest_of_parts name k ps (no_given ∷ xs) h = absurd h.0

  mutual
    pub after_holds : (k : Accum) (c : Holds k) (xs : List Given) → HoldsValues world k c → AllOf (InputFits world k) xs → HoldsValues world k (after k c xs)
    after_holds (SetAccum b) c xs h g = distinct_all (is_value world b) place (c ++ values xs) (append_all (is_value world b) c (values xs) h (values_all b (SetAccum b) (one_of_set b) xs g))
    after_holds (BagAccum b) c xs h g = sorted_all (is_value world b) place (c ++ values xs) (append_all (is_value world b) c (values xs) h (values_all b (BagAccum b) (one_of_bag b) xs g))
    after_holds (ListAccum b) c xs h g = append_all (is_value world b) c (values xs) h (values_all b (ListAccum b) (one_of_list b) xs g)
    after_holds (HeapAccum b n by) c xs h g =
        take_all (is_value world b) n (sorted (heap_cmp by) (c ++ values xs))
        (sorted_all (is_value world b) (heap_cmp by) (c ++ values xs) (append_all (is_value world b) c (values xs) h (values_all b (HeapAccum b n by) (one_of_heap b n by) xs g)))
    after_holds (MapAccum b k) c xs h g =
        (distinct_all (row_is world (b ∷ [])) row_cmp (c.0 ++ rows_in xs) (append_all (row_is world (b ∷ [])) c.0 (rows_in xs) h.0 (map_rows b k xs g)), λ q. after_holds k (c.1 q) (map first (own q xs)) (h.1 q) (map_own b k q xs g))
    after_holds (GroupByAccum keys ps) c xs h g =
        (distinct_all (row_is world (bases_of keys)) row_cmp (c.0 ++ rows_in xs) (append_all (row_is world (bases_of keys)) c.0 (rows_in xs) h.0 (group_rows keys ps xs g)), λ q. after_hold ps (c.1 q) (own q xs) (h.1 q) (group_own keys ps q xs g))
    after_holds (SumAccum n) c xs h g = tt
    after_holds (MinAccum n) c xs h g = tt
    after_holds (MaxAccum n) c xs h g = tt
    after_holds OrAccum c xs h g = tt
    after_holds AndAccum c xs h g = tt
    after_holds BitwiseOrAccum c xs h g = tt
    after_holds BitwiseAndAccum c xs h g = tt
    after_holds AvgAccum c xs h g = tt

    pub after_hold : (ps : Parts) (cs : HoldsEach ps) (xs : List Givens) → HoldValues world ps cs → AllOf (InputsFit world ps) xs → HoldValues world ps (after_each ps cs xs)
    after_hold no_part cs xs h g = tt
    after_hold (part_and name k ps) cs xs h g = (after_holds k cs.0 (map first xs) h.0 (first_of_parts name k ps xs g), after_hold ps cs.1 (map rest xs) h.1 (rest_of_parts name k ps xs g))

pub content_law_by_name : ContentLaw Bytes
content_law_by_name world k c xs h g = after_holds world k c xs h g
