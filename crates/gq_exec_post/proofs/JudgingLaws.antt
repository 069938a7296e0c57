-- JudgingLaws: if a content fitted before an input, the changed entries decide whether it fits after it.
use Rattle.std.proofs.Common.{if◌then◌else◌, ◌≡◌, pos, ◌||◌, ◌&&◌, Bool, true, false, List, [], ◌∷◌, ◌++◌, map, Ordering, Less, Equal, Greater, refl, sym, ap, ap₂, ◌∙◌}
use Rattle.std.specs.List.{list_all}
use Rattle.std.specs.Ordering.{is_eq}
use Rattle.gq_value.specs.declared.kind.Number.{Number}
use Rattle.gq_value.specs.declared.kind.Number.TheVariants as number
use Rattle.gq_value.specs.Val.{Val}
use Rattle.gq_value.specs.Arithmetic.{is_within}
use Rattle.gq_value.specs.Accums.{Accum, SumAccum, MinAccum, MaxAccum, OrAccum, AndAccum, BitwiseOrAccum, BitwiseAndAccum, AvgAccum, SetAccum, BagAccum, ListAccum, MapAccum, GroupByAccum, HeapAccum, Parts, no_part, part_and, Given, One, Keyed, Givens}
use Rattle.gq_accum_laws.specs.Gather.{among, distinct}
use Rattle.gq_accum_laws.specs.Holds.{Holds, HoldsEach, row_cmp}
use Rattle.gq_accum_laws.specs.Inputs.{own, first, rest}
use Rattle.gq_accum_laws.specs.After.{fresh, fresh_each, after, after_each}
use Rattle.gq_accum_laws.specs.Fits.{fits, fit, IsProper, AreProper}
use Rattle.gq_accum_laws.proofs.GatherLaws.{itself}
use Rattle.gq_accum_laws.proofs.KindLaws.{both}
use Rattle.gq_accum_laws.proofs.ProperLaws.{after_none, each_none}
use Rattle.gq_accum_laws.proofs.RowLaws.{row_linear, among_distinct, among-append}
use Rattle.gq_exec_post.specs.Judging.{fits_where, fit_where}

apart : {P : Type 0} → false ≡ true → P
apart h = absurd (cc h)

-- ---- rows that all pass but one

same_row : (q row : List Val) → is_eq (row_cmp q row) ≡ true → q ≡ row
same_row q row h = by (row_cmp q row) refl h
  where
    by : (o : Ordering) → row_cmp q row ≡ o → is_eq o ≡ true → q ≡ row
    by Less e g = apart g
    by Equal e g = row_linear.only q row e
    by Greater e g = apart g

module _ (test : List Val → Bool) (row : List Val) where
  all_pass : ((q : List Val) → test q ≡ true) → (cs : List (List Val)) → list_all test cs ≡ true
  all_pass each [] = refl
  all_pass each (q ∷ cs) = ap₂ ◌&&◌ (each q) (all_pass each cs)

  -- a row passes if all do
  all_among : (cs : List (List Val)) → among row_cmp row cs ≡ true → list_all test cs ≡ true → test row ≡ true
  all_among [] g h = apart g
  all_among (q ∷ cs) g h = let p = both (test q) (list_all test cs) h in by (is_eq (row_cmp row q)) refl (λ r. all_among cs r p.1) p.0 g
    where
      by : (b : Bool) → is_eq (row_cmp row q) ≡ b → (among row_cmp row cs ≡ true → test row ≡ true) → test q ≡ true → (b || among row_cmp row cs) ≡ true → test row ≡ true
      by true e r t g = ap test (same_row row q e) ∙ t
      by false e r t g = r g

  all_but : (cs : List (List Val)) → among row_cmp row cs ≡ true → ((q : List Val) → is_eq (row_cmp q row) ≡ false → test q ≡ true) → test row ≡ list_all test cs
  all_but cs g others = by (test row) refl (list_all test cs) refl
    where
      each : test row ≡ true → (q : List Val) → test q ≡ true
      each e q = at (is_eq (row_cmp q row)) refl
        where
          at : (b : Bool) → is_eq (row_cmp q row) ≡ b → test q ≡ true
          at true h = ap test (same_row q row h) ∙ e
          at false h = others q h

      by : (b : Bool) → test row ≡ b → (c : Bool) → list_all test cs ≡ c → b ≡ c
      by true e c f = sym (all_pass (each e) cs) ∙ f
      by false e true f = sym e ∙ all_among cs g f
      by false e false f = refl

-- the row of an input is among those after it
is_among : (row : List Val) (cs : List (List Val)) → among row_cmp row (distinct row_cmp (cs ++ row ∷ [])) ≡ true
is_among row cs = among_distinct row_cmp row_linear row (cs ++ row ∷ []) ∙ among-append row_cmp row_linear row cs (row ∷ []) ∙ ap (λ o. among row_cmp row cs || (is_eq o || false)) (itself row_cmp row_linear false row) ∙ or_true (among row_cmp row cs)
  where
    or_true : (b : Bool) → (b || true) ≡ true
    or_true true = refl
    or_true false = refl

-- the effect of an input at its own row, and at others
own_here : (row : List Val) (xs : Givens) → own row (Keyed row xs ∷ []) ≡ xs ∷ []
own_here row xs = ap (λ o. (if is_eq o then xs ∷ [] else []) ++ []) (itself row_cmp row_linear false row)

own_elsewhere : (q row : List Val) (xs : Givens) → is_eq (row_cmp q row) ≡ false → own q (Keyed row xs ∷ []) ≡ []
own_elsewhere q row xs h = ap (λ b. (if b then xs ∷ [] else []) ++ []) h

-- ---- before any input

none_within : (n : Number) → is_within n (pos 0) ≡ true
none_within number.Int = refl
none_within number.UInt = refl

mutual
  fresh_fits : (k : Accum) → fits k (fresh k) ≡ true
  fresh_fits (SumAccum n) = none_within n
  fresh_fits (MinAccum n) = refl
  fresh_fits (MaxAccum n) = refl
  fresh_fits OrAccum = refl
  fresh_fits AndAccum = refl
  fresh_fits BitwiseOrAccum = refl
  fresh_fits BitwiseAndAccum = refl
  fresh_fits AvgAccum = refl
  fresh_fits (SetAccum b) = refl
  fresh_fits (BagAccum b) = refl
  fresh_fits (ListAccum b) = refl
  fresh_fits (MapAccum b k) = refl
  fresh_fits (GroupByAccum keys ps) = refl
  fresh_fits (HeapAccum b n by) = refl

  fresh_fit : (ps : Parts) → fit ps (fresh_each ps) ≡ true
  fresh_fit no_part = refl
  fresh_fit (part_and name k ps) = ap₂ ◌&&◌ (fresh_fits k) (fresh_fit ps)

mutual
  pub fresh_where : (k : Accum) (x : Given) → fits_where k (fresh k) x ≡ true
  fresh_where (SumAccum n) x = none_within n
  fresh_where (MinAccum n) x = refl
  fresh_where (MaxAccum n) x = refl
  fresh_where OrAccum x = refl
  fresh_where AndAccum x = refl
  fresh_where BitwiseOrAccum x = refl
  fresh_where BitwiseAndAccum x = refl
  fresh_where AvgAccum x = refl
  fresh_where (SetAccum b) x = refl
  fresh_where (BagAccum b) x = refl
  fresh_where (ListAccum b) x = refl
  fresh_where (MapAccum b k) (One v) = refl
  fresh_where (MapAccum b k) (Keyed row xs) = fresh_where k (first xs)
  fresh_where (GroupByAccum keys ps) (One v) = refl
  fresh_where (GroupByAccum keys ps) (Keyed row xs) = fresh_each_where ps xs
  fresh_where (HeapAccum b n by) x = refl

  pub fresh_each_where : (ps : Parts) (xs : Givens) → fit_where ps (fresh_each ps) xs ≡ true
  fresh_each_where no_part xs = refl
  fresh_each_where (part_and name k ps) xs = ap₂ ◌&&◌ (fresh_where k (first xs)) (fresh_each_where ps (rest xs))

-- ---- each row of a content that fits

module _ {A : Type 0} (test : A → Bool) (none : A) (c : List (List Val)) (at : List Val → A) where
  passes : test none ≡ true → list_all (λ q. test (at q)) c ≡ true → ((q : List Val) → among row_cmp q c ≡ false → at q ≡ none) → (q : List Val) → test (at q) ≡ true
  passes begins h lacks q = by (among row_cmp q c) refl
    where
      by : (b : Bool) → among row_cmp q c ≡ b → test (at q) ≡ true
      by true e = all_among (λ r. test (at r)) q c e h
      by false e = ap test (lacks q e) ∙ begins

-- ---- after an input

mutual
  pub still_fits : (k : Accum) (c : Holds k) (x : Given) → IsProper k c → fits k c ≡ true → fits_where k (after k c (x ∷ [])) x ≡ fits k (after k c (x ∷ []))
  still_fits (SumAccum n) c x p h = refl
  still_fits (MinAccum n) c x p h = refl
  still_fits (MaxAccum n) c x p h = refl
  still_fits OrAccum c x p h = refl
  still_fits AndAccum c x p h = refl
  still_fits BitwiseOrAccum c x p h = refl
  still_fits BitwiseAndAccum c x p h = refl
  still_fits AvgAccum c x p h = refl
  still_fits (SetAccum b) c x p h = refl
  still_fits (BagAccum b) c x p h = refl
  still_fits (ListAccum b) c x p h = refl
  still_fits (MapAccum b k) c (One v) p h = refl
  still_fits (MapAccum b k) c (Keyed row xs) p h =
      ap (λ l. fits_where k (after k (c.1 row) (map first l)) (first xs)) (own_here row xs)
      ∙ still_fits k (c.1 row) (first xs) (p.2 row) (fitted row)
      ∙ ap (λ l. fits k (after k (c.1 row) (map first l))) (sym (own_here row xs))
      ∙ all_but (λ q. fits k (after k (c.1 q) (map first (own q (Keyed row xs ∷ []))))) row (distinct row_cmp (c.0 ++ row ∷ [])) (is_among row c.0)
      (λ q e. ap (λ l. fits k (after k (c.1 q) (map first l))) (own_elsewhere q row xs e) ∙ ap (fits k) (after_none k (c.1 q) (p.2 q)) ∙ fitted q)
    where
      fitted : (q : List Val) → fits k (c.1 q) ≡ true
      fitted = passes (fits k) (fresh k) c.0 c.1 (fresh_fits k) h p.1
  still_fits (GroupByAccum keys ps) c (One v) p h = refl
  still_fits (GroupByAccum keys ps) c (Keyed row xs) p h =
      ap (λ l. fit_where ps (after_each ps (c.1 row) l) xs) (own_here row xs)
      ∙ still_fit ps (c.1 row) xs (p.2 row) (fitted row)
      ∙ ap (λ l. fit ps (after_each ps (c.1 row) l)) (sym (own_here row xs))
      ∙ all_but (λ q. fit ps (after_each ps (c.1 q) (own q (Keyed row xs ∷ [])))) row (distinct row_cmp (c.0 ++ row ∷ [])) (is_among row c.0)
      (λ q e. ap (λ l. fit ps (after_each ps (c.1 q) l)) (own_elsewhere q row xs e) ∙ ap (fit ps) (each_none ps (c.1 q) (p.2 q)) ∙ fitted q)
    where
      fitted : (q : List Val) → fit ps (c.1 q) ≡ true
      fitted = passes (fit ps) (fresh_each ps) c.0 c.1 (fresh_fit ps) h p.1
  still_fits (HeapAccum b n by) c x p h = refl

  still_fit : (ps : Parts) (cs : HoldsEach ps) (xs : Givens) → AreProper ps cs → fit ps cs ≡ true → fit_where ps (after_each ps cs (xs ∷ [])) xs ≡ fit ps (after_each ps cs (xs ∷ []))
  still_fit no_part cs xs p h = refl
  still_fit (part_and name k ps) cs xs p h = let b = both (fits k cs.0) (fit ps cs.1) h in ap₂ ◌&&◌ (still_fits k cs.0 (first xs) p.0 b.0) (still_fit ps cs.1 (rest xs) p.1 b.1)
