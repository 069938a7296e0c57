-- ValueLaws: values of a type: what they are read as, the results of operators, conversions.
use Rattle.std.proofs.Common.{◌≡◌, ℕ, Bool, true, false, List, [], ◌∷◌, Some, None, Result, Ok, Err, refl, ap, sym, ◌∙◌, subst, arith}
use Rattle.std.proofs.lemmas.Bool.Decides.{nat_tests}
use Rattle.std.specs.Prelude.{◌&&◌, ◌==◌, ℤ, if◌then◌else◌}
use Rattle.gq_rules_typing.specs.MulSign.{MulSign}
use Rattle.gq_rules_typing.specs.MulSign.TheVariants as times
use Rattle.gq_value.specs.declared.value.Wrong.{Wrong}
use Rattle.gq_value.specs.declared.value.Wrong.TheVariants as wrong
use Rattle.gq_value.specs.declared.kind.Number as numbers
use Rattle.gq_value.specs.declared.kind.Number.TheVariants as number
use Rattle.gq_value.specs.Val.{Val, Int, UInt, Truth, Text, Vertex}
use Rattle.gq_value.specs.Accums.{Base, INT, UINT, BOOL, STRING, DATETIME, VERTEX, VERTEX_OF, TUPLE, Bases, no_base, base_and}
use Rattle.gq_value.specs.Typed.{number_type, in_calendar}
use Rattle.gq_graph.specs.Candidates.{is_target}
use Rattle.gq_value.specs.Arithmetic.{in_type, is_within, as_type, type_of_both, whole, multiplied, divided, remainder, is_zero}
use Rattle.gq_rules_typing.specs.Judging.{Typed, Of, AliasOf, MemberOf, Mismatch}
use Rattle.gq_rules_typing.specs.Types.{same_base, same_bases, is_number, is_bool, converts, vertex_base, as_base, stands_for_vertex, has_accums, alone, number_of_both, calculated}
use Rattle.gq_rules_typing.specs.Types as types
use Rattle.gq_rules_meaning.specs.Answers.{Answer, Gives, Faults, Stuck, found, of_result}
use Rattle.gq_rules_meaning.specs.Answers as answers
use Rattle.gq_rules_meaning.specs.Meanings.{Meant, Is, IsMember, value_of_meant, vertex_of_meant, as_number, as_int, as_time, as_truth, as_bytes, numbered}
use Rattle.gq_rules_meaning.specs.Expressions.{World}
use Rattle.gq_rules_meaning.specs.Expressions as expressions
use Rattle.gq_rules_meaning.specs.Fitting.{Safe, is_vertex_of, is_value, Suits}
use Rattle.gq_rules_meaning.proofs.AnswerLaws.{safe_then, checked, ok_inj, and_ok}

-- ---- base types that are the same

pub same_number : (m n : ℕ) → (m == n) ≡ true → m ≡ n
same_number m n h = grind (arith, nat_tests)

mutual
  pub same_base_is : (b c : Base) → same_base b c ≡ true → b ≡ c
  same_base_is INT INT h = refl
  same_base_is UINT UINT h = refl
  same_base_is BOOL BOOL h = refl
  same_base_is STRING STRING h = refl
  same_base_is DATETIME DATETIME h = refl
  same_base_is VERTEX VERTEX h = refl
  same_base_is (VERTEX_OF t) (VERTEX_OF u) h = ap VERTEX_OF (same_number t u h)
  same_base_is (TUPLE n bs) (TUPLE m cs) h =
      let w = and_ok (n == m) (same_bases bs cs) h in let e = same_number n m w.0 in let f = same_bases_are bs cs w.1 in cc
  same_base_is b c h = cc

  pub same_bases_are : (bs cs : Bases) → same_bases bs cs ≡ true → bs ≡ cs
  same_bases_are no_base no_base h = refl
  same_bases_are (base_and b bs) (base_and c cs) h =
      let w = and_ok (same_base b c) (same_bases bs cs) h in let e = same_base_is b c w.0 in let f = same_bases_are bs cs w.1 in cc
  same_bases_are bs cs h = cc

-- ---- what a value is read as

module _ {N : Type 0} (world : World N) where
  -- it is a value of the type
  abbrev pub IsValue : Base → Val → Type 0
  IsValue b v = is_value world b v ≡ true

  pub vertex_base_value : (ts : List ℕ) (v : ℕ) → is_vertex_of world.graph ts v ≡ true → IsValue (vertex_base ts) (Vertex v)
  vertex_base_value [] v h = (and_ok _ _ h).1
  vertex_base_value (t ∷ []) v h = h
  vertex_base_value (t ∷ u ∷ us) v h = (and_ok _ _ h).1

  pub as_value : (x : Typed) (b : Base) (m : Meant) → as_base x ≡ Ok b → Suits world x m → Safe (IsValue b) (value_of_meant m)
  as_value (Of c) b (Is d v) e h = subst (λ c. IsValue c v) (ok_inj e) h.1
  as_value (AliasOf ts) b (Is d (Vertex v)) e h = subst (λ c. IsValue c (Vertex v)) (ok_inj e) (vertex_base_value ts v h.1)
  as_value (AliasOf ts) b (Is d v) e h = absurd h
  as_value (Of c) b m e h = absurd h
  as_value (AliasOf ts) b m e h = absurd h
  as_value x b m e h = cc

  pub number_safe : (b : Base) (v : Val) → is_number b ≡ true → IsValue b v → Safe (λ (x : ℤ). Unit {0}) (as_number v)
  number_safe b (Int x) n h = tt
  number_safe b (UInt x) n h = tt
  number_safe INT v n h = cc
  number_safe UINT v n h = cc
  number_safe b v n h = cc

  pub truth_safe : (b : Base) (v : Val) → is_bool b ≡ true → IsValue b v → Safe (λ (x : Bool). Unit {0}) (as_truth v)
  truth_safe BOOL (Truth b) n h = tt
  truth_safe BOOL v n h = cc
  truth_safe b v n h = cc

  pub bytes_safe : (v : Val) → IsValue STRING v → Safe (λ (x : List ℕ). Unit {0}) (as_bytes v)
  bytes_safe (Text s) h = tt
  bytes_safe v h = cc

  -- a time is its seconds
  pub time_safe : (v : Val) → IsValue DATETIME v → Safe (λ (x : ℤ). in_calendar x ≡ true) (as_time v)
  time_safe (Int x) h = go (in_calendar x) h
    where
      go : (b : Bool) → b ≡ true → Safe {F = Wrong} (λ (x : ℤ). in_calendar x ≡ true) (found (if b then Some x else None))
      go true e = h
      go false e = absurd (let f : ⊥ = cc in f)
  time_safe v h = cc

  -- an INT is its number
  pub int_given : (v : Val) → IsValue INT v → Safe (λ (x : ℤ). Unit {0}) (as_int v)
  int_given (Int x) h = tt
  int_given v h = cc

  -- an existing vertex of the graph
  abbrev pub IsOwn : ℕ → Type 0
  IsOwn v = is_target world.graph.sight.kinds world.graph.sorts.own_vertices v ≡ true

  pub vertex_value_safe : (b : Base) (v : Val) → types.is_vertex b ≡ true → IsValue b v → Safe IsOwn (vertex_of_meant (Is b v))
  vertex_value_safe VERTEX (Vertex v) n h = h
  vertex_value_safe (VERTEX_OF t) (Vertex v) n h = (and_ok _ _ h).1
  vertex_value_safe VERTEX v n h = cc
  vertex_value_safe (VERTEX_OF t) v n h = cc
  vertex_value_safe b v n h = cc

  pub vertex_safe : (x : Typed) (m : Meant) → stands_for_vertex x ≡ true → Suits world x m → Safe IsOwn (vertex_of_meant m)
  vertex_safe (Of b) (Is c v) n h = go c v (subst (λ c. types.is_vertex c ≡ true) (sym h.0) n) (subst (λ c. IsValue c v) (sym h.0) h.1)
    where
      go : (c : Base) (v : Val) → types.is_vertex c ≡ true → IsValue c v → Safe IsOwn (vertex_of_meant (Is c v))
      go c v n h = vertex_value_safe c v n h
  vertex_safe (AliasOf ts) (Is c (Vertex v)) n h = (and_ok _ _ h.1).1
  vertex_safe (MemberOf ts) (IsMember vs c v) n h = (and_ok _ _ h.1).1
  vertex_safe (AliasOf ts) (Is c v) n h = absurd h
  vertex_safe (Of b) m n h = absurd h
  vertex_safe (AliasOf ts) m n h = absurd h
  vertex_safe (MemberOf ts) m n h = absurd h
  vertex_safe x m n h = cc

  -- ---- the results of operators

  -- a number of a type
  pub in_type_safe : (n : numbers.Number) (x : ℤ) → Safe (λ v. Suits world (Of (number_type n)) (Is (number_type n) v)) (of_result (in_type n x))
  in_type_safe n x = go (is_within n x) n
    where
      go : (t : Bool) (n : numbers.Number) → Safe (λ v. Suits world (Of (number_type n)) (Is (number_type n) v)) (of_result (if t then Ok (as_type n x) else Err wrong.Range))
      go true number.Int = (refl, refl)
      go true number.UInt = (refl, refl)
      go false n = tt

  -- as a number for printing and arithmetic
  pub numbered_safe : (n : numbers.Number) (r : Result Val Wrong) → Safe (λ v. Suits world (Of (number_type n)) (Is (number_type n) v)) (of_result r) → Safe (Suits world (Of (number_type n))) (answers.◌>>=◌ (of_result r) numbered)
  numbered_safe number.Int (Ok (Int x)) h = h
  numbered_safe number.UInt (Ok (UInt x)) h = h
  numbered_safe number.Int (Ok v) h = cc
  numbered_safe number.UInt (Ok v) h = cc
  numbered_safe n (Err e) h = tt

  -- the result of an operation on two whole numbers
  abbrev pub IsExact : (Val → Val → Result Val Wrong) → Type 0
  IsExact operation = (b c : Base) (v w : Val) → is_number b ≡ true → is_number c ≡ true → IsValue b v → IsValue c w → Safe (λ z. Suits world (Of (number_type (type_of_both v w))) (Is (number_type (type_of_both v w)) z)) (of_result (operation v w))

  pub both_type : (b c : Base) (v w : Val) → is_number b ≡ true → is_number c ≡ true → IsValue b v → IsValue c w → number_type (type_of_both v w) ≡ number_of_both b c
  both_type INT INT (Int x) (Int y) h k f g = refl
  both_type INT UINT (Int x) (UInt y) h k f g = refl
  both_type UINT INT (UInt n) (Int y) h k f g = refl
  both_type UINT UINT (UInt n) (UInt m) h k f g = refl
  both_type b c v w h k f g = cc

  pub calculated_safe : (operation : Val → Val → Result Val Wrong) → IsExact operation → (b c : Base) (ty : Typed) (v w : Val) → calculated b c ≡ Ok ty → IsValue b v → IsValue c w → Safe (Suits world ty) (expressions.calculated operation v w)
  calculated_safe operation exact b c ty v w e f g =
      let u = checked Mismatch (is_number b && is_number c) (Ok (Of (number_of_both b c))) ty e in
      let n = and_ok (is_number b) (is_number c) u.0 in
      subst (λ ty. Safe (Suits world ty) (expressions.calculated operation v w)) (ap Of (both_type b c v w n.0 n.1 f g) ∙ ok_inj u.1)
      (safe_then _ _ (as_number v) _ (number_safe b v n.0 f) (λ x u. safe_then _ _ (as_number w) _ (number_safe c w n.1 g) (λ y u. numbered_safe (type_of_both v w) (operation v w) (exact b c v w n.0 n.1 f g))))

  divided_exact : (f : Val → Val → Result Val Wrong) (z : Bool) (v w : Val) (x : ℤ) → Safe (λ z. Suits world (Of (number_type (type_of_both v w))) (Is (number_type (type_of_both v w)) z)) (of_result (if z then Err wrong.Zero else in_type (type_of_both v w) x))
  divided_exact f true v w x = tt
  divided_exact f false v w x = in_type_safe (type_of_both v w) x

  pub product_safe : (s : MulSign) (b c : Base) (ty : Typed) (v w : Val) → calculated b c ≡ Ok ty → IsValue b v → IsValue c w → Safe (Suits world ty) (expressions.product s v w)
  product_safe times.Times b c ty v w e f g = calculated_safe multiplied (λ b c v w n m f g. in_type_safe (type_of_both v w) _) b c ty v w e f g
  product_safe times.Over b c ty v w e f g = calculated_safe divided (λ b c v w n m f g. divided_exact divided (is_zero (whole w)) v w _) b c ty v w e f g
  product_safe times.Modulo b c ty v w e f g = calculated_safe remainder (λ b c v w n m f g. divided_exact remainder (is_zero (whole w)) v w _) b c ty v w e f g
