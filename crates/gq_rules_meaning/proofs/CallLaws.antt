-- CallLaws: functions and methods of typed arguments are not stuck, and return values of the typed result.
use Rattle.std.proofs.Common.{◌≡◌, ℕ, suc, Bool, true, false, List, [], ◌∷◌, map, length, ◌+◌, eq-eqb, arith, Option, Some, None, Ok, refl, ap, sym, ◌∙◌, subst}
use Rattle.std.specs.Prelude.{◌&&◌, ◌==◌, if◌then◌else◌, slice_get}
use Rattle.gq_rules_typing.specs.Tree.{Trees}
use Rattle.gq_value.specs.declared.value.Wrong.{Wrong}
use Rattle.gq_value.specs.Val.{Val, vals_of}
use Rattle.gq_value.specs.Accums.{Base, INT, UINT, BOOL, STRING, DATETIME, VERTEX, VERTEX_OF, TUPLE, Bases, no_base, base_and, Accum, SetAccum, BagAccum, ListAccum, MapAccum, GroupByAccum}
use Rattle.gq_value.specs.AccumViews.{bases}
use Rattle.gq_value.specs.Typed.{is_scalar}
use Rattle.gq_rules_typing.specs.Gather.{among}
use Rattle.gq_rules_typing.specs.Holds.{Holds, row_cmp}
use Rattle.gq_rules_typing.specs.Sorts.{Fields, bases_of}
use Rattle.gq_rules_typing.specs.Words.{Function, Makes, Abs, ToString, ToDatetime, EpochToDatetime, DatetimeToEpoch, DatetimeDiff, DatetimeAdd, PartOf, Method, Size, Contains, ContainsKey, Get, Outdegree, function_from, function_named}
use Rattle.gq_rules_typing.specs.Judging.{Typed, Of, Whole, ◌>>◌, unless, Mismatch}
use Rattle.gq_rules_typing.specs.Types.{same_base, same_bases, converts, convert_all}
use Rattle.gq_rules_typing.specs.Kinds.{key_types, contained_type}
use Rattle.gq_rules_typing.specs.FieldTypes.{tuple_fields}
use Rattle.gq_rules_typing.specs.CallTypes.{converts_to, got_type, method_type, function_type}
use Rattle.gq_rules_meaning.specs.Answers.{found}
use Rattle.gq_rules_meaning.specs.Meanings.{IsContent}
use Rattle.gq_rules_meaning.specs.Calls.{one_wanted, method_wants, method_of, function_wants}
use Rattle.gq_rules_meaning.specs.Collections.{got}
use Rattle.gq_rules_meaning.specs.Expressions.{World, setting}
use Rattle.gq_rules_meaning.specs.Fitting.{Safe, is_value, are_values, HoldsValues, WorldFits, Suits}
use Rattle.gq_rules_meaning.proofs.AnswerLaws.{checked, after_ok, ok_inj, and_ok, both_ok}
use Rattle.gq_rules_meaning.proofs.ValueLaws.{same_number, IsValue}
use Rattle.gq_rules_meaning.proofs.ContentLaws.{read_suits, size_safe, got_map, got_group}

-- ---- arguments after their conversions

abbrev pub type_wanted : Option Base → Base → Base
type_wanted None b = b
type_wanted (Some c) b = c

abbrev pub accepts : Option Base → Base → Bool
accepts None b = true
accepts (Some c) b = converts b c

-- there is a type for each argument, to which it converts
abbrev pub AcceptsAll : List (Option Base) → List Base → Type 0
AcceptsAll wants [] = Unit {0}
AcceptsAll [] (b ∷ bs) = ⊥
AcceptsAll (w ∷ ws) (b ∷ bs) = (accepts w b ≡ true) × AcceptsAll ws bs

module _ {N : Type 0} (world : World N) where
  -- each argument is of the required type
  abbrev pub AreArguments : List (Option Base) → List Base → List Val → Type 0
  AreArguments wants [] [] = Unit {0}
  AreArguments (w ∷ ws) (b ∷ bs) (v ∷ vs) = IsValue world (type_wanted w b) v × AreArguments ws bs vs
  AreArguments _ _ _ = ⊥

  -- ---- methods

  pub accepts_keys : (bs cs : List Base) → convert_all bs cs ≡ true → AcceptsAll (map Some cs) bs
  accepts_keys [] [] h = tt
  accepts_keys (b ∷ bs) (c ∷ cs) h = let w = and_ok (converts b c) (convert_all bs cs) h in (w.0, accepts_keys bs cs w.1)
  accepts_keys [] (c ∷ cs) h = tt
  accepts_keys (b ∷ bs) [] h = cc

  accepts_one : (bs : List Base) (o : Option Base) → converts_to bs o ≡ true → AcceptsAll (one_wanted o) bs
  accepts_one (b ∷ []) (Some c) h = (h, tt)
  accepts_one [] o h = tt
  accepts_one (b ∷ []) None h = cc
  accepts_one (b ∷ c ∷ bs) o h = cc

  -- all but `.outdegree`, whose argument is looked up by its text
  abbrev pub is_outdegree : Method → Bool
  is_outdegree Outdegree = true
  is_outdegree f = false

  no_arguments : (bs : List Base) → (length bs == 0) ≡ true → bs ≡ []
  no_arguments [] h = refl
  no_arguments (b ∷ bs) h = let e : length (b ∷ bs) ≡ 0 = same_number (length (b ∷ bs)) 0 h in cc

  -- only maps and groups have a rule on keys
  keys_accept : (j : Accum) (bs : List Base) (ty : Typed) → got_type (Whole j) bs ≡ Ok ty → AcceptsAll (map Some (key_types j)) bs
  keys_accept (MapAccum b k) bs ty e = accepts_keys bs (b ∷ []) (checked Mismatch (convert_all bs (b ∷ [])) _ ty e).0
  keys_accept (GroupByAccum keys ps) bs ty e = accepts_keys bs (key_types (GroupByAccum keys ps)) (checked Mismatch (convert_all bs (key_types (GroupByAccum keys ps))) _ ty e).0
  keys_accept j bs ty e = cc

  pub content_accepts : (sorts : _) (f : Method) (j : Accum) (c : Holds j) (ts : Trees N) (bs : List Base) (ty : Typed) → is_outdegree f ≡ false → method_type sorts f (Whole j) ts bs ≡ Ok ty → AcceptsAll (method_wants f (IsContent j c)) bs
  content_accepts sorts Size j c ts bs ty n e = subst (AcceptsAll []) (sym (no_arguments bs (checked Mismatch (length bs == 0) _ ty e).0)) tt
  content_accepts sorts Contains j c ts bs ty n e = accepts_one bs (contained_type j) (checked Mismatch (converts_to bs (contained_type j)) _ ty e).0
  content_accepts sorts ContainsKey j c ts bs ty n e = let w = after_ok (got_type (Whole j) bs) _ ty e in keys_accept j bs w.0.0 w.0.1
  content_accepts sorts Get j c ts bs ty n e = keys_accept j bs ty e
  content_accepts sorts Outdegree j c ts bs ty n e = cc

  -- the arguments that a set's size takes
  pub size_accepts : (bs : List Base) (t : Bool) (ty : Typed) → (unless Mismatch (t && (length bs == 0)) >> Ok (Of INT)) ≡ Ok ty → (bs ≡ []) × (ty ≡ Of INT)
  size_accepts bs t ty e = let u = checked Mismatch (t && (length bs == 0)) _ ty e in (no_arguments bs (and_ok t _ u.0).1, sym (ok_inj u.1))

  -- the results of a collection's methods
  size_gives : (j : Accum) (c : Holds j) (bs : List Base) (vs : List Val) → is_scalar j ≡ false → AreArguments [] bs vs → Safe (Suits world (Of INT)) (method_of world.graph Size (IsContent j c) vs)
  size_gives j c [] [] n h = size_safe world j c _ _ n (λ k. (refl, refl))
  size_gives j c [] (v ∷ vs) n h = absurd h
  size_gives j c (b ∷ bs) vs n h = absurd h

  contains_gives : (j : Accum) (c : Holds j) (bs : List Base) (vs : List Val) → converts_to bs (contained_type j) ≡ true → AreArguments (one_wanted (contained_type j)) bs vs → Safe (Suits world (Of BOOL)) (method_of world.graph Contains (IsContent j c) vs)
  contains_gives (SetAccum b) c (d ∷ []) (v ∷ []) e h = (refl, refl)
  contains_gives (BagAccum b) c (d ∷ []) (v ∷ []) e h = (refl, refl)
  contains_gives (ListAccum b) c (d ∷ []) (v ∷ []) e h = (refl, refl)
  contains_gives (SetAccum b) c (d ∷ []) [] e h = absurd h
  contains_gives (BagAccum b) c (d ∷ []) [] e h = absurd h
  contains_gives (ListAccum b) c (d ∷ []) [] e h = absurd h
  contains_gives (SetAccum b) c (d ∷ []) (v ∷ w ∷ vs) e h = absurd h.1
  contains_gives (BagAccum b) c (d ∷ []) (v ∷ w ∷ vs) e h = absurd h.1
  contains_gives (ListAccum b) c (d ∷ []) (v ∷ w ∷ vs) e h = absurd h.1
  contains_gives j c [] vs e h = cc
  contains_gives j c (d ∷ f ∷ bs) vs e h = cc
  contains_gives j c (d ∷ []) vs e h = cc

  key_gives : (j : Accum) (c : Holds j) (bs : List Base) (vs : List Val) (ty : Typed) → got_type (Whole j) bs ≡ Ok ty → Safe (Suits world (Of BOOL)) (method_of world.graph ContainsKey (IsContent j c) vs)
  key_gives (MapAccum b k) c bs vs ty e = (refl, refl)
  key_gives (GroupByAccum keys ps) c bs vs ty e = (refl, refl)
  key_gives j c bs vs ty e = cc

  got_gives : (j : Accum) (c : Holds j) (bs : List Base) (vs : List Val) (ty : Typed) → HoldsValues world j c → got_type (Whole j) bs ≡ Ok ty → Safe (Suits world ty) (method_of world.graph Get (IsContent j c) vs)
  got_gives (MapAccum b k) c bs vs ty h e =
      subst (λ ty. Safe {F = Wrong} (Suits world ty) (found (got (MapAccum b k) c vs))) (ok_inj (checked Mismatch (convert_all bs (b ∷ [])) _ ty e).1)
      (read_suits world k _ (got_map world b k c vs h (among row_cmp vs c.0)))
  got_gives (GroupByAccum keys ps) c bs vs ty h e =
      subst (λ ty. Safe {F = Wrong} (Suits world ty) (found (got (GroupByAccum keys ps) c vs))) (ok_inj (checked Mismatch (convert_all bs (key_types (GroupByAccum keys ps))) _ ty e).1)
      (refl, got_group world keys ps c vs h (among row_cmp vs c.0))
  got_gives j c bs vs ty h e = cc

  pub content_gives : (sorts : _) (f : Method) (j : Accum) (c : Holds j) (ts : Trees N) (bs : List Base) (vs : List Val) (ty : Typed) → is_outdegree f ≡ false → is_scalar j ≡ false → HoldsValues world j c → method_type sorts f (Whole j) ts bs ≡ Ok ty → AreArguments (method_wants f (IsContent j c)) bs vs → Safe (Suits world ty) (method_of world.graph f (IsContent j c) vs)
  content_gives sorts Size j c ts bs vs ty n s h e a =
      subst (λ ty. Safe (Suits world ty) (method_of world.graph Size (IsContent j c) vs)) (ok_inj (checked Mismatch (length bs == 0) _ ty e).1) (size_gives j c bs vs s a)
  content_gives sorts Contains j c ts bs vs ty n s h e a =
      let u = checked Mismatch (converts_to bs (contained_type j)) _ ty e in subst (λ ty. Safe (Suits world ty) (method_of world.graph Contains (IsContent j c) vs)) (ok_inj u.1) (contains_gives j c bs vs u.0 a)
  content_gives sorts ContainsKey j c ts bs vs ty n s h e a =
      let w = after_ok (got_type (Whole j) bs) _ ty e in subst (λ ty. Safe (Suits world ty) (method_of world.graph ContainsKey (IsContent j c) vs)) (ok_inj w.1) (key_gives j c bs vs w.0.0 w.0.1)
  content_gives sorts Get j c ts bs vs ty n s h e a = got_gives j c bs vs ty h e
  content_gives sorts Outdegree j c ts bs vs ty n s h e a = cc

  -- ---- functions

  mutual
    pub same_base_refl : (b : Base) → same_base b b ≡ true
    same_base_refl INT = refl
    same_base_refl UINT = refl
    same_base_refl BOOL = refl
    same_base_refl STRING = refl
    same_base_refl DATETIME = refl
    same_base_refl VERTEX = refl
    same_base_refl (VERTEX_OF t) = eq-eqb t t refl
    same_base_refl (TUPLE n bs) = both_ok (n == n) (same_bases bs bs) (eq-eqb n n refl) (same_bases_refl bs)

    pub same_bases_refl : (bs : Bases) → same_bases bs bs ≡ true
    same_bases_refl no_base = refl
    same_bases_refl (base_and b bs) = both_ok (same_base b b) (same_bases bs bs) (same_base_refl b) (same_bases_refl bs)

  -- a tuple type that is named has its place among those of the query
  abbrev fields_at : Option (N × Fields) → Fields
  fields_at None = []
  fields_at (Some t) = t.1

  abbrev Placed : ℕ → List Base → ℕ → List (N × Fields) → Type 0
  Placed n fields k ts = (i : ℕ) × (n ≡ k + i) × (fields ≡ bases_of (fields_at (slice_get ts i)))

  from_tuples : WorldFits world → (f : N) (k : ℕ) (ts : List (N × Fields)) (n : ℕ) (fields : List Base) → function_from world.words f k ts ≡ Some (Makes n fields) → Placed n fields k ts
  from_tuples fits f k [] n fields e = absurd (fits.functions f n fields e)
  from_tuples fits f k (t ∷ ts) n fields e = go (world.words.same t.0 f) refl e (λ e. from_tuples fits f (suc k) ts n fields e)
    where
      go : (q : Bool) → world.words.same t.0 f ≡ q → (if q then Some (Makes k (bases_of t.1)) else function_from world.words f (suc k) ts) ≡ Some (Makes n fields) → (function_from world.words f (suc k) ts ≡ Some (Makes n fields) → Placed n fields (suc k) ts) → Placed n fields k (t ∷ ts)
      go true q e rest = let d : k ≡ n = cc in let b : fields ≡ bases_of t.1 = cc in (0, (omega arith), b)
      go false q e rest = let w = rest e in let d : n ≡ suc k + w.0 = w.1 in (suc w.0, (omega arith), w.2)

  pub tuple_made : WorldFits world → (f : N) (n : ℕ) (fields : List Base) → function_named (setting world) f ≡ Some (Makes n fields) → fields ≡ bases_of (tuple_fields (setting world) n)
  tuple_made fits f n fields e =
      let w = from_tuples fits f 0 world.tuples n fields e in
      let d : n ≡ 0 + w.0 = w.1 in let d' : w.0 ≡ n = omega arith in
      w.2 ∙ ap (λ i. bases_of (fields_at (slice_get world.tuples i))) d'

  -- a tuple of arguments
  pub tuple_values : (fields bs : List Base) (vs : List Val) → convert_all bs fields ≡ true → AreArguments (map Some fields) bs vs → are_values world (bases fields) (vals_of vs) ≡ true
  tuple_values [] [] [] e h = refl
  tuple_values (c ∷ cs) (b ∷ bs) (v ∷ vs) e h = let w = and_ok (converts b c) (convert_all bs cs) e in both_ok (is_value world c v) _ h.0 (tuple_values cs bs vs w.1 h.1)
  tuple_values [] [] (v ∷ vs) e h = absurd h
  tuple_values (c ∷ cs) (b ∷ bs) [] e h = absurd h
  tuple_values [] (b ∷ bs) vs e h = cc
  tuple_values (c ∷ cs) [] vs e h = cc

  -- ---- which arguments a function accepts

  abbrev pub is_adding : Function → Bool
  is_adding DatetimeAdd = true
  is_adding f = false

  pub function_accepts : (f : Function) (ts : Trees N) (bs : List Base) (ty : Typed) → is_adding f ≡ false → function_type f ts bs ≡ Ok ty → AcceptsAll (function_wants f) bs
  function_accepts (Makes n fields) ts bs ty a e = accepts_keys bs fields (checked Mismatch (convert_all bs fields) _ ty e).0
  function_accepts Abs ts (b ∷ []) ty a e = (refl, tt)
  function_accepts ToString ts (b ∷ []) ty a e = (refl, tt)
  function_accepts ToDatetime ts (STRING ∷ []) ty a e = (refl, tt)
  function_accepts EpochToDatetime ts (b ∷ []) ty a e = (refl, tt)
  function_accepts DatetimeToEpoch ts (DATETIME ∷ []) ty a e = (refl, tt)
  function_accepts DatetimeDiff ts (DATETIME ∷ DATETIME ∷ []) ty a e = (refl, (refl, tt))
  function_accepts (PartOf part) ts (DATETIME ∷ []) ty a e = (refl, tt)
  function_accepts DatetimeAdd ts bs ty a e = cc
  function_accepts f ts bs ty a e = cc
