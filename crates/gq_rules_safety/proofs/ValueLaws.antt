-- ValueLaws: conditions, numbers and values that are required; values that are set.
use Rattle.std.proofs.Common.{◌≡◌, Bool, true, false, Some, Ok, Err, arith, refl, sym, subst}
use Rattle.std.specs.Prelude.{if◌then◌else◌, ℤ, pos, negsuc, ◌≤ℤ◌, int_le, FitsSigned}
use Rattle.std.specs.Int.{w64}
use Rattle.std.proofs.lemmas.Int.{ints}
use Rattle.gq_tree.specs.Tree.{Tree}
use Rattle.gq_value.specs.declared.value.Wrong.{Wrong}
use Rattle.gq_value.specs.declared.value.Wrong.TheVariants as wrong
use Rattle.gq_value.specs.declared.kind.Number as numbers
use Rattle.gq_value.specs.declared.kind.Number.TheVariants as number
use Rattle.gq_value.specs.Val.{Val}
use Rattle.gq_value.specs.Accums.{Base, INT, UINT, BOOL, STRING, DATETIME, VERTEX, VERTEX_OF, TUPLE, Accum, SumAccum, MinAccum, MaxAccum, OrAccum, AndAccum, BitwiseOrAccum, BitwiseAndAccum}
use Rattle.gq_value.specs.Arithmetic.{least, most, is_within, in_type, as_type, whole}
use Rattle.gq_accum_laws.specs.Reads.{set_to}
use Rattle.gq_rules_typing.specs.Judging.{Mismatch}
use Rattle.gq_rules_typing.specs.Types.{as_base, is_bool, is_number}
use Rattle.gq_rules_typing.specs.Kinds.{set_type}
use Rattle.gq_rules_typing.specs.ExpressionTypes.{Names, typing, base_type, condition, number, converting}
use Rattle.gq_rules_meaning.specs.Answers.{Answer, Gives, Faults, Stuck, of_result}
use Rattle.gq_rules_meaning.specs.Answers as answers
use Rattle.gq_rules_meaning.specs.Meanings.{as_number, as_truth, converted_to}
use Rattle.gq_rules_meaning.specs.Expressions.{World, Look, value_of, value_as, truth_of, number_of}
use Rattle.gq_rules_meaning.specs.Fitting.{Safe}
use Rattle.gq_rules_meaning.specs.StateFits.{ContentFits}
use Rattle.gq_rules_meaning.specs.Laws.{LookFits}
use Rattle.gq_rules_meaning.proofs.AnswerLaws.{safe_then, then_ok, checked, unless_ok, and_ok, ok_inj}
use Rattle.gq_rules_meaning.proofs.ValueLaws.{IsValue, truth_safe, number_safe}
use Rattle.gq_rules_meaning.proofs.NeverStuck.{never_stuck, as_value_safe}
use Rattle.gq_rules_meaning.proofs.InputLaws.{value_as_safe}

pub safe_both : {F A : Type 0} (P Q : A → Type 0) (o : Answer F A) → Safe P o → Safe Q o → Safe (λ a. P a × Q a) o
safe_both P Q (Gives a) h g = (h, g)
safe_both P Q (Faults e) h g = tt
safe_both P Q Stuck h g = h

-- ---- numbers in range

-- a number that is taken for a type is within it
abbrev pub InRange : Base → Val → Type 0
InRange INT v = is_within number.Int (whole v) ≡ true
InRange UINT v = is_within number.UInt (whole v) ≡ true
InRange b v = Unit {0}

whole_of_type : (n : numbers.Number) (x : ℤ) → is_within n x ≡ true → whole (as_type n x) ≡ x
whole_of_type number.Int x h = refl
whole_of_type number.UInt (pos n) h = refl
whole_of_type number.UInt (negsuc n) h = cc

-- whatever the answer is: if it gives something, that satisfies P
abbrev pub Within : {F A : Type 0} → (A → Type 0) → Answer F A → Type 0
Within P (Gives a) = P a
Within P (Faults e) = Unit {0}
Within P Stuck = Unit {0}

within_then : {F A B : Type 0} (Q : B → Type 0) (o : Answer F A) (f : A → Answer F B) → ((a : A) → Within Q (f a)) → Within Q (answers.◌>>=◌ o f)
within_then Q (Gives a) f g = g a
within_then Q (Faults e) f g = tt
within_then Q Stuck f g = tt

pub safe_within : {F A : Type 0} (P Q : A → Type 0) (o : Answer F A) → Safe P o → Within Q o → Safe (λ a. P a × Q a) o
safe_within P Q (Gives a) h g = (h, g)
safe_within P Q (Faults e) h g = tt
safe_within P Q Stuck h g = h

int_within : (x : ℤ) → Within (InRange INT) (of_result (in_type number.Int x))
int_within x = go (is_within number.Int x) refl
  where
    go : (t : Bool) → is_within number.Int x ≡ t → Within (InRange INT) (of_result {F = Wrong} (if t then Ok (as_type number.Int x) else Err wrong.Range))
    go true e = e
    go false e = tt

uint_within : (x : ℤ) → Within (InRange UINT) (of_result (in_type number.UInt x))
uint_within x = go (is_within number.UInt x) refl
  where
    go : (t : Bool) → is_within number.UInt x ≡ t → Within (InRange UINT) (of_result {F = Wrong} (if t then Ok (as_type number.UInt x) else Err wrong.Range))
    go true e = subst (λ y. is_within number.UInt y ≡ true) (sym (whole_of_type number.UInt x e)) e
    go false e = tt

converted_within : (b : Base) (v : Val) → Within (InRange b) (converted_to b v)
converted_within INT v = within_then (InRange INT) (as_number v) _ int_within
converted_within UINT v = within_then (InRange UINT) (as_number v) _ uint_within
converted_within BOOL v = tt
converted_within STRING v = tt
converted_within DATETIME v = tt
converted_within VERTEX v = tt
converted_within (VERTEX_OF t) v = tt
converted_within (TUPLE n bs) v = tt

-- ---- contents that are set

at_most : (n : numbers.Number) (x : ℤ) → is_within n x ≡ true → x ≤ℤ most n
at_most number.Int x h = let p = and_ok (int_le (least number.Int) x) (int_le x (most number.Int)) h in let a = p.0 in let b = p.1 in grind (arith, ints)
at_most number.UInt x h = let p = and_ok (int_le (least number.UInt) x) (int_le x (most number.UInt)) h in let a = p.0 in let b = p.1 in grind (arith, ints)

at_least : (n : numbers.Number) (x : ℤ) → is_within n x ≡ true → least n ≤ℤ x
at_least number.Int x h = let p = and_ok (int_le (least number.Int) x) (int_le x (most number.Int)) h in let a = p.0 in let b = p.1 in grind (arith, ints)
at_least number.UInt x h = let p = and_ok (int_le (least number.UInt) x) (int_le x (most number.UInt)) h in let a = p.0 in let b = p.1 in grind (arith, ints)

word_sized : (x : ℤ) → is_within number.Int x ≡ true → FitsSigned w64 x
word_sized (pos n) h = let p = and_ok (int_le (least number.Int) (pos n)) (int_le (pos n) (most number.Int)) h in let a = p.1 in record { sfits = grind (arith, ints) }
word_sized (negsuc n) h = let p = and_ok (int_le (least number.Int) (negsuc n)) (int_le (negsuc n) (most number.Int)) h in let a = p.0 in record { sfits = grind (arith, ints) }

module _ {N : Type 0} (world : World N) where
  -- a content that is set to a value of its type fits
  pub set_fits : (k : Accum) (b : Base) (v : Val) → set_type k ≡ Some b → InRange b v → ContentFits world k (set_to k v)
  set_fits (SumAccum number.Int) INT v e r = record { values = tt; fit = r; proper = tt }
  set_fits (SumAccum number.UInt) UINT v e r = record { values = tt; fit = r; proper = tt }
  set_fits (MinAccum number.Int) INT v e r = record { values = tt; fit = refl; proper = at_most number.Int (whole v) r }
  set_fits (MinAccum number.UInt) UINT v e r = record { values = tt; fit = refl; proper = at_most number.UInt (whole v) r }
  set_fits (MaxAccum number.Int) INT v e r = record { values = tt; fit = refl; proper = at_least number.Int (whole v) r }
  set_fits (MaxAccum number.UInt) UINT v e r = record { values = tt; fit = refl; proper = at_least number.UInt (whole v) r }
  set_fits OrAccum b v e r = record { values = tt; fit = refl; proper = tt }
  set_fits AndAccum b v e r = record { values = tt; fit = refl; proper = tt }
  set_fits BitwiseOrAccum INT v e r = record { values = tt; fit = refl; proper = word_sized (whole v) r }
  set_fits BitwiseAndAccum INT v e r = record { values = tt; fit = refl; proper = word_sized (whole v) r }
  set_fits k b v e r = cc

-- ---- the types that a place requires

module _ {N : Type 0} (names : Names N) (look : Look N) (fit : LookFits names look) where
  pub base_safe : (t : Tree N) (b : Base) → base_type names t ≡ Ok b → Safe (IsValue look.world b) (value_of look t)
  base_safe t b e = let x = then_ok (typing names t) as_base b e in as_value_safe names look fit t x.0 b (never_stuck names look fit t x.0 x.1) x.2

  pub condition_safe : (t : Tree N) (q : Bool) → condition names t ≡ Ok q → Safe (λ (b : Bool). Unit {0}) (truth_of look t)
  condition_safe t q e =
      let b = then_ok (base_type names t) _ q e in
      safe_then (IsValue look.world b.0) _ _ as_truth (base_safe t b.0 b.1) (λ v f. truth_safe look.world b.0 v (unless_ok Mismatch (is_bool b.0) q b.2) f)

  pub number_known : (t : Tree N) (b : Base) → number names t ≡ Ok b → (base_type names t ≡ Ok b) × (is_number b ≡ true)
  number_known t b e =
      let c = then_ok (base_type names t) _ b e in let u = checked Mismatch (is_number c.0) (Ok c.0) b c.2 in
      (subst (λ b. base_type names t ≡ Ok b) (ok_inj u.1) c.1, subst (λ b. is_number b ≡ true) (ok_inj u.1) u.0)

  pub number_value : (t : Tree N) (b : Base) → number names t ≡ Ok b → Safe (IsValue look.world b) (value_of look t)
  number_value t b e = base_safe t b (number_known t b e).0

  pub number_of_safe : (t : Tree N) (b : Base) → number names t ≡ Ok b → Safe (λ (x : ℤ). Unit {0}) (number_of look t)
  number_of_safe t b e = safe_then (IsValue look.world b) _ _ as_number (number_value t b e) (λ v f. number_safe look.world b v (number_known t b e).1 f)

  -- a required value is of the type, and in range
  pub wanted_safe : (b : Base) (t : Tree N) (q : Bool) → converting names b t ≡ Ok q → Safe (λ v. IsValue look.world b v × InRange b v) (value_as look b t)
  wanted_safe b t q e = safe_within (IsValue look.world b) (InRange b) (value_as look b t) (value_as_safe names look fit b t q e) (within_then (InRange b) (value_of look t) (converted_to b) (converted_within b))
