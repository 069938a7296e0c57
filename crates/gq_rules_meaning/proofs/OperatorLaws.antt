-- OperatorLaws: the results of signs, comparisons and conversions.
use Rattle.std.proofs.Common.{◌≡◌, ℕ, zero, suc, Bool, true, false, Ok, Err, inl, inr, ◌⊎◌, refl, sym, ◌∙◌, subst}
use Rattle.std.specs.Prelude.{◌&&◌, ◌||◌, if◌then◌else◌, ◌++◌, ◌^◌, nat_lt, pos, neg_ℤ, ℤ, ◌+ℤ◌}
use Rattle.gq_rules_typing.specs.AddSign.{AddSign}
use Rattle.gq_rules_typing.specs.AddSign.TheVariants as sign
use Rattle.gq_rules_typing.specs.CmpSign.{CmpSign}
use Rattle.gq_value.specs.declared.value.Wrong.{Wrong}
use Rattle.gq_value.specs.declared.kind.Number as numbers
use Rattle.gq_value.specs.declared.kind.Number.TheVariants as number
use Rattle.gq_value.specs.Val.{Val, Int, UInt, Truth, Text, Vertex, Tuple, Fraction, rank}
use Rattle.gq_value.specs.Order.{compare}
use Rattle.gq_value.specs.Accums.{Base, INT, UINT, BOOL, STRING, DATETIME, VERTEX, VERTEX_OF, TUPLE}
use Rattle.gq_value.specs.Typed.{number_type}
use Rattle.gq_value.specs.Arithmetic.{in_type, added, subtracted, negated, type_of_both, whole}
use Rattle.gq_rules_typing.specs.Judging.{Typed, Of, Average, Whole, GroupRow, AliasOf, EdgeOf, SetOf, MemberOf, Judged, Mismatch}
use Rattle.gq_rules_typing.specs.Types.{same_base, is_number, is_bool, is_vertex, converts, as_base, is_numeric, comparable, comparable_bases, both_comparable, is_equality}
use Rattle.gq_rules_typing.specs.Types as types
use Rattle.gq_rules_typing.specs.ExpressionTypes.{literal_type}
use Rattle.gq_rules_typing.specs.ExpressionTypes as expression_types
use Rattle.gq_rules_meaning.specs.Answers.{Answer, Gives, Faults, Stuck, of_result}
use Rattle.gq_rules_meaning.specs.Answers as answers
use Rattle.gq_rules_meaning.specs.Meanings.{Meant, Is, IsAverage, value_of_meant, as_number, converted_to, numbered, truly, literal}
use Rattle.gq_rules_meaning.specs.Expressions.{World, minus, summed, compared, may_compare, related}
use Rattle.gq_rules_meaning.specs.Expressions as expressions
use Rattle.gq_rules_meaning.specs.Fitting.{Safe, Suits}
use Rattle.gq_rules_meaning.proofs.AnswerLaws.{safe_then, safe_with, checked, ok_inj, and_ok, or_ok}
use Rattle.gq_rules_meaning.proofs.ValueLaws.{same_base_is, IsValue, as_value, number_safe, in_type_safe, calculated_safe}

module _ {N : Type 0} (world : World N) where
  pub literal_safe : (n : ℕ) → Safe (Suits world (Of (literal_type n))) (literal n)
  literal_safe n = go (nat_lt n (2 ^ 63))
    where
      go : (t : Bool) → Safe {F = Wrong} (Suits world (Of (if t then INT else UINT))) (if t then Gives (Is INT (Int (pos n))) else Gives (Is UINT (UInt n)))
      go true = (refl, refl)
      go false = (refl, refl)

  -- ---- conversions

  in_type_value : (n : numbers.Number) (x : ℤ) → Safe (IsValue world (number_type n)) (of_result (in_type n x))
  in_type_value n x = safe_with _ _ (of_result (in_type n x)) (in_type_safe world n x) (λ v h. h.1)

  to_number : (b : Base) (n : numbers.Number) (v : Val) → is_number b ≡ true → IsValue world b v → Safe (IsValue world (number_type n)) (answers.◌>>=◌ (as_number v) (λ x. of_result (in_type n x)))
  to_number b n v h f = safe_then _ _ (as_number v) _ (number_safe world b v h f) (λ x u. in_type_value n x)

  -- a value of a type that converts is one of the required type, or Range
  pub converted_safe : (b c : Base) (v : Val) → converts b c ≡ true → IsValue world b v → Safe (IsValue world c) (converted_to c v)
  converted_safe INT INT v h f = to_number INT number.Int v refl f
  converted_safe UINT INT v h f = to_number UINT number.Int v refl f
  converted_safe INT UINT v h f = to_number INT number.UInt v refl f
  converted_safe UINT UINT v h f = to_number UINT number.UInt v refl f
  converted_safe BOOL BOOL v h f = f
  converted_safe STRING STRING v h f = f
  converted_safe DATETIME DATETIME v h f = f
  converted_safe VERTEX VERTEX v h f = f
  converted_safe (VERTEX_OF t) VERTEX (Vertex v) h f = (and_ok _ _ f).1
  converted_safe (VERTEX_OF t) VERTEX v h f = cc
  converted_safe (VERTEX_OF t) (VERTEX_OF u) v h f = subst (λ c. IsValue world c v) (same_base_is (VERTEX_OF t) (VERTEX_OF u) (or_ok _ _ h refl)) f
  converted_safe (TUPLE n bs) (TUPLE m cs) v h f = subst (λ c. IsValue world c v) (same_base_is (TUPLE n bs) (TUPLE m cs) (or_ok _ _ h refl)) f
  converted_safe b c v h f = cc

  -- ---- signs

  minus_int : (n : ℕ) (v : Val) → IsValue world INT v → Safe (Suits world (Of INT)) (minus n v)
  minus_int zero (Int x) f = (refl, f)
  minus_int zero v f = cc
  minus_int (suc n) v f = safe_then _ _ (as_number v) _ (number_safe world INT v refl f) (λ x u. safe_then _ _ (of_result (negated v)) _ (in_type_value number.Int (neg_ℤ (whole v))) (λ w g. minus_int n w g))

  pub minus_safe : (n : ℕ) (b : Base) (ty : Typed) (v : Val) → expression_types.negated n b ≡ Ok ty → IsValue world b v → Safe (Suits world ty) (minus n v)
  minus_safe zero b ty v e f = let u = checked Mismatch (is_number b) _ ty e in subst (λ ty. Safe (Suits world ty) (minus 0 v)) (ok_inj u.1) (plain b v u.0 f)
    where
      plain : (b : Base) (v : Val) → is_number b ≡ true → IsValue world b v → Safe (Suits world (Of b)) (numbered v)
      plain INT (Int x) n f = (refl, f)
      plain UINT (UInt x) n f = (refl, f)
      plain b v n f = cc
  minus_safe (suc n) b ty v e f =
      let u = checked Mismatch (is_number b) _ ty e in
      subst (λ ty. Safe (Suits world ty) (minus (suc n) v)) (ok_inj u.1)
      (safe_then _ _ (as_number v) _ (number_safe world b v u.0 f) (λ x z. safe_then _ _ (of_result (negated v)) _ (in_type_value number.Int (neg_ℤ (whole v))) (λ w g. minus_int n w g)))

  -- ---- sums

  added_exact : (b c : Base) (v w : Val) → is_number b ≡ true → is_number c ≡ true → IsValue world b v → IsValue world c w → Safe (λ z. Suits world (Of (number_type (type_of_both v w))) (Is (number_type (type_of_both v w)) z)) (of_result (added v w))
  added_exact b c (Int x) w n m f g = in_type_safe world (type_of_both (Int x) w) (x +ℤ whole w)
  added_exact b c (UInt x) w n m f g = in_type_safe world (type_of_both (UInt x) w) (pos x +ℤ whole w)
  added_exact INT c v w n m f g = cc
  added_exact UINT c v w n m f g = cc
  added_exact b c v w n m f g = cc

  plus_numbers : (b c : Base) (ty : Typed) (v w : Val) → types.calculated b c ≡ Ok ty → IsValue world b v → IsValue world c w → Safe (Suits world ty) (expressions.calculated added v w)
  plus_numbers b c ty v w e f g = calculated_safe world added added_exact b c ty v w e f g

  -- operands that aren't two texts are added as numbers
  plus_numbers_is : (b c : Base) (v w : Val) → is_number b ≡ true → IsValue world b v → summed sign.Plus v w ≡ expressions.calculated added v w
  plus_numbers_is b c (Int x) w n f = refl
  plus_numbers_is b c (UInt x) w n f = refl
  plus_numbers_is INT c v w n f = cc
  plus_numbers_is UINT c v w n f = cc
  plus_numbers_is b c v w n f = cc

  plus_safe : (b c : Base) (ty : Typed) (v w : Val) → types.calculated b c ≡ Ok ty → IsValue world b v → IsValue world c w → Safe (Suits world ty) (summed sign.Plus v w)
  plus_safe b c ty v w e f g =
      let u = checked Mismatch (is_number b && is_number c) _ ty e in
      subst (Safe (Suits world ty)) (sym (plus_numbers_is b c v w (and_ok _ _ u.0).0 f)) (plus_numbers b c ty v w e f g)

  pub summed_safe : (s : AddSign) (b c : Base) (ty : Typed) (v w : Val) → expression_types.summed s b c ≡ Ok ty → IsValue world b v → IsValue world c w → Safe (Suits world ty) (summed s v w)
  summed_safe sign.Minus b c ty v w e f g = calculated_safe world subtracted (λ b c v w n m f g. in_type_safe world (type_of_both v w) _) b c ty v w e f g
  summed_safe sign.Plus STRING STRING ty (Text s) (Text t) e f g = subst (λ ty. Suits world ty (Is STRING (Text (s ++ t)))) (ok_inj e) (refl, refl)
  summed_safe sign.Plus STRING STRING ty (Text s) w e f g = cc
  summed_safe sign.Plus STRING STRING ty v w e f g = cc
  summed_safe sign.Plus b c ty v w e f g = plus_safe b c ty v w e f g

  -- ---- comparisons

  -- a value of a type, or an average
  abbrev pub Valued : Typed → Val → Type 0
  Valued x v = (is_numeric x ≡ true → rank v ≡ 0) × ((b : Base) → as_base x ≡ Ok b → IsValue world b v)

  abbrev has_value : Typed → Bool
  has_value (Of b) = true
  has_value Average = true
  has_value (AliasOf types) = true
  has_value x = false

  abbrev base_rank : Base → ℕ
  base_rank BOOL = 1
  base_rank STRING = 2
  base_rank VERTEX = 3
  base_rank (VERTEX_OF t) = 3
  base_rank (TUPLE n bs) = 4
  base_rank b = 0

  value_rank : (b : Base) (v : Val) → IsValue world b v → rank v ≡ base_rank b
  value_rank INT (Int x) h = refl
  value_rank UINT (UInt x) h = refl
  value_rank BOOL (Truth x) h = refl
  value_rank STRING (Text x) h = refl
  value_rank DATETIME (Int x) h = refl
  value_rank VERTEX (Vertex x) h = refl
  value_rank (VERTEX_OF t) (Vertex x) h = refl
  value_rank (TUPLE n bs) (Tuple x) h = refl
  value_rank b v h = cc

  number_rank : (b : Base) → is_number b ≡ true → base_rank b ≡ 0
  number_rank INT h = refl
  number_rank UINT h = refl
  number_rank b h = cc

  pub valued : (x : Typed) (m : Meant) → has_value x ≡ true → Suits world x m → Safe (Valued x) (value_of_meant m)
  valued (Of b) (Is c v) n h = let f : IsValue world b v = h.1 in (λ k. value_rank b v f ∙ number_rank b k, λ d e. subst (λ d. IsValue world d v) (ok_inj e) f)
  valued Average (IsAverage (Fraction s d)) n h = (λ k. refl, λ b e. cc)
  valued Average (IsAverage v) n h = absurd h
  valued (AliasOf ts) (Is c (Vertex v)) n h = (λ k. cc, λ d e. as_value world (AliasOf ts) d (Is c (Vertex v)) e h)
  valued (AliasOf ts) (Is c v) n h = absurd h
  valued (Of b) m n h = absurd h
  valued Average m n h = absurd h
  valued (AliasOf ts) m n h = absurd h
  valued x m n h = cc

  none : (a : Bool) → ((a && false) || false) ≡ true → ⊥
  none true h = cc
  none false h = cc

  comparable_has_value : (s : CmpSign) (x y : Typed) → comparable s x y ≡ true → (has_value x ≡ true) × (has_value y ≡ true)
  comparable_has_value s (Of b) (Of c) h = (refl, refl)
  comparable_has_value s (Of b) Average h = (refl, refl)
  comparable_has_value s (Of b) (AliasOf ts) h = (refl, refl)
  comparable_has_value s Average (Of c) h = (refl, refl)
  comparable_has_value s Average Average h = (refl, refl)
  comparable_has_value s (AliasOf us) (Of c) h = (refl, refl)
  comparable_has_value s (AliasOf us) (AliasOf ts) h = (refl, refl)
  comparable_has_value s (Of b) (Whole k) h = absurd (none (is_number b) h)
  comparable_has_value s (Of b) (GroupRow ps) h = absurd (none (is_number b) h)
  comparable_has_value s (Of b) (EdgeOf ts) h = absurd (none (is_number b) h)
  comparable_has_value s (Of b) (SetOf ts) h = absurd (none (is_number b) h)
  comparable_has_value s (Of b) (MemberOf ts) h = absurd (none (is_number b) h)
  comparable_has_value s x y h = cc

  at_ranks : (s : CmpSign) (v w : Val) (q r : ℕ) → rank v ≡ q → rank w ≡ r → may_compare s q r ≡ true → may_compare s (rank v) (rank w) ≡ true
  at_ranks s v w q r e f h = subst (λ z. may_compare s (rank v) z ≡ true) (sym f) (subst (λ z. may_compare s z r ≡ true) (sym e) h)

  vertex_rank : (b : Base) → is_vertex b ≡ true → base_rank b ≡ 3
  vertex_rank VERTEX h = refl
  vertex_rank (VERTEX_OF t) h = refl
  vertex_rank b h = cc

  equality_rank : (s : CmpSign) (q : ℕ) → is_equality s ≡ true → (q ≡ 1) ⊎ (q ≡ 3) → may_compare s q q ≡ true
  equality_rank s q e (inl h) = subst (λ q. may_compare s q q ≡ true) (sym h) (subst (λ z. (z && true) ≡ true) (sym e) refl)
  equality_rank s q e (inr h) = subst (λ q. may_compare s q q ≡ true) (sym h) (subst (λ z. (z && true) ≡ true) (sym e) refl)

  vertices_may : (s : CmpSign) (b c : Base) → (is_equality s && (is_vertex b && is_vertex c)) ≡ true → may_compare s (base_rank b) (base_rank c) ≡ true
  vertices_may s b c h =
      let u = and_ok _ _ h in let w = and_ok _ _ u.1 in
      subst (λ q. may_compare s (base_rank b) q ≡ true) (sym (vertex_rank c w.1)) (subst (λ q. may_compare s q 3 ≡ true) (sym (vertex_rank b w.0)) (equality_rank s 3 u.0 (inr refl)))

  bases_may : (s : CmpSign) (b c : Base) → comparable_bases s b c ≡ true → may_compare s (base_rank b) (base_rank c) ≡ true
  bases_may s STRING STRING h = refl
  bases_may s DATETIME DATETIME h = refl
  bases_may s BOOL BOOL h = equality_rank s 1 h (inl refl)
  bases_may s b c h = vertices_may s b c h

  bases_of_both : (s : CmpSign) (p q : Judged Base) → both_comparable s p q ≡ true → (b : Base) × (c : Base) × (p ≡ Ok b) × (q ≡ Ok c) × (comparable_bases s b c ≡ true)
  bases_of_both s (Ok b) (Ok c) h = (b, c, refl, refl, h)
  bases_of_both s (Ok b) (Err e) h = cc
  bases_of_both s (Err e) q h = cc

  may : (s : CmpSign) (x y : Typed) (v w : Val) → comparable s x y ≡ true → Valued x v → Valued y w → may_compare s (rank v) (rank w) ≡ true
  may s x y v w h f g = go (is_numeric x && is_numeric y) refl h
    where
      go : (t : Bool) → (is_numeric x && is_numeric y) ≡ t → (t || both_comparable s (as_base x) (as_base y)) ≡ true → may_compare s (rank v) (rank w) ≡ true
      go true n h = let u = and_ok _ _ n in at_ranks s v w 0 0 (f.0 u.0) (g.0 u.1) refl
      go false n h = let u = bases_of_both s (as_base x) (as_base y) h in at_ranks s v w (base_rank u.0) (base_rank u.1) (value_rank u.0 v (f.1 u.0 u.2)) (value_rank u.1 w (g.1 u.1 u.3)) (bases_may s u.0 u.1 u.4)

  pub compared_safe : (s : CmpSign) (x y : Typed) (v w : Val) → comparable s x y ≡ true → Valued x v → Valued y w → Safe (Suits world (Of BOOL)) (compared s v w)
  compared_safe s x y v w h f g = go (may_compare s (rank v) (rank w)) (may s x y v w h f g)
    where
      go : (t : Bool) → t ≡ true → Safe (Suits world (Of BOOL)) (if t then truly (related s (compare v w)) else Stuck)
      go true h = (refl, refl)
      go false h = cc

  pub comparable_valued : (s : CmpSign) (x y : Typed) (m : Meant) → comparable s x y ≡ true → Suits world x m → Safe (Valued x) (value_of_meant m)
  comparable_valued s x y m h f = valued x m (comparable_has_value s x y h).0 f

  pub comparable_valued_too : (s : CmpSign) (x y : Typed) (m : Meant) → comparable s x y ≡ true → Suits world y m → Safe (Valued y) (value_of_meant m)
  comparable_valued_too s x y m h f = valued y m (comparable_has_value s x y h).1 f
