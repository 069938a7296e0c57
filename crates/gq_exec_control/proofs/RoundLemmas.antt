-- RoundLemmas: the numbers of a range, by index.
use Rattle.std.proofs.Common.{◌≡◌, ℕ, zero, suc, ◌+◌, ◌<◌, ◌≤◌, Bool, true, false, List, [], ℤ, pos, ◌+ℤ◌, ◌-ℤ◌, ◌<ℤ◌, ◌≤ℤ◌, nat_abs, int_le, Some, None, refl, sym, ap, ◌∙◌, arith}
use Rattle.std.specs.List.{slice_get}
use Rattle.std.proofs.lemmas.Int.{ints}
use Rattle.gq_value.specs.declared.kind.Number.{Number}
use Rattle.gq_value.specs.Arithmetic.{as_type}
use Rattle.gq_value.specs.declared.kind.Number.TheVariants as number
use Rattle.gq_value.specs.declared.value.Value.TheVariants as value
use Rattle.gq_value.specs.Val.{Val, Int}
use Rattle.gq_value.specs.Views.{val}
use Rattle.gq_value.specs.ViewLaws.{val-Int, val-UInt}
use Rattle.gq_rules_meaning.specs.Statements.{numbers_from, numbers_between}

none_more : (x : ℤ) → x ≡ (x +ℤ pos 0)
none_more x = omega (arith, ints)

one_more : (x : ℤ) (r : ℕ) → ((x +ℤ pos 1) +ℤ pos r) ≡ (x +ℤ pos (suc r))
one_more x r = omega (arith, ints)

from_there : (n : Number) (k r : ℕ) (x : ℤ) → r < k → slice_get (numbers_from n k x) r ≡ Some (as_type n (x +ℤ pos r))
from_there n zero r x h = absurd (omega (arith, h))
from_there n (suc k) zero x h = ap (λ y. Some (as_type n y)) (none_more x)
from_there n (suc k) (suc r) x h = from_there n k r (x +ℤ pos 1) (omega (arith, h)) ∙ ap (λ y. Some (as_type n y)) (one_more x r)

from_past : (n : Number) (k r : ℕ) (x : ℤ) → k ≤ r → slice_get (numbers_from n k x) r ≡ None
from_past n zero r x h = refl
from_past n (suc k) zero x h = absurd (omega (arith, h))
from_past n (suc k) (suc r) x h = from_past n k r (x +ℤ pos 1) (omega (arith, h))

-- a number that isn't past the last one
below_span : (x y : ℤ) (r : ℕ) → (x +ℤ pos r) ≤ℤ y → r < suc (nat_abs (y -ℤ x))
below_span x y r h = omega (arith, ints, h)

past_span : (x y : ℤ) (r : ℕ) → x ≤ℤ y → y <ℤ (x +ℤ pos r) → suc (nat_abs (y -ℤ x)) ≤ r
past_span x y r l h = omega (arith, ints, l, h)

in_order : (x y : ℤ) (r : ℕ) → (x +ℤ pos r) ≤ℤ y → int_le x y ≡ true
in_order x y r h = grind (arith, ints, h)

order_is : (x y : ℤ) → int_le x y ≡ true → x ≤ℤ y
order_is x y e = grind (arith, ints, e)

pub number_there : (n : Number) (x y : ℤ) (r : ℕ) → (x +ℤ pos r) ≤ℤ y → slice_get (numbers_between n x y) r ≡ Some (as_type n (x +ℤ pos r))
number_there n x y r h =
    ap (λ (b : Bool). slice_get (elim b as (λ _. List Val) [ true ↦ numbers_from n (suc (nat_abs (y -ℤ x))) x | false ↦ [] ]) r) (in_order x y r h)
    ∙ from_there n (suc (nat_abs (y -ℤ x))) r x (below_span x y r h)

pub number_past : (n : Number) (x y : ℤ) (r : ℕ) → y <ℤ (x +ℤ pos r) → slice_get (numbers_between n x y) r ≡ None
number_past n x y r h = by_order (int_le x y) refl
  where
    by_order : (b : Bool) → int_le x y ≡ b → slice_get (elim b as (λ _. List Val) [ true ↦ numbers_from n (suc (nat_abs (y -ℤ x))) x | false ↦ [] ]) r ≡ None
    by_order true e = from_past n (suc (nat_abs (y -ℤ x))) r x (past_span x y r (order_is x y e) h)
    by_order false e = refl

-- ---- a number as a value

pub int_is : (x : ℤ) (r : ℕ) (y : ℤ) → y ≡ (x +ℤ pos r) → as_type number.Int (x +ℤ pos r) ≡ val (value.Int y)
int_is x r y e = ap Int (sym e) ∙ sym (val-Int y)

pub uint_is : (x r : ℕ) → as_type number.UInt (pos x +ℤ pos r) ≡ val (value.UInt (x + r))
uint_is x r = ap (as_type number.UInt) (let e : (pos x +ℤ pos r) ≡ pos (x + r) = omega (arith, ints) in e) ∙ sym (val-UInt (x + r))
