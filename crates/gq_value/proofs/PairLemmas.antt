-- PairLemmas: the order of two values whose variants are known.
use Rattle.std.proofs.Common.{◌≡◌, ℕ, ◌*◌, ℤ, pos, ◌*ℤ◌, ◌<◌, ◌<ℤ◌, max, Bool, true, false, nat_cmp, int_cmp, Ordering, Less, Equal, Greater, refl, sym, ap, ◌∙◌, arith, FitsSigned, w64, to_z, of_z}
use Rattle.std.proofs.Math.IntN.{*ℤ-one, one}
use Rattle.std.proofs.lemmas.Int.{ints, to_z-of_z}
use Rattle.std.specs.Ordering.{ordering_then, ordering_reverse, MatchOrdering}
use Rattle.std.specs.Cmp.{int_cmp_is}
use Rattle.std.proofs.lemmas.Cmp.{ranked}
use Rattle.gq_value.specs.declared.value.Value.TheVariants as value
use Rattle.gq_value.specs.declared.value.Fraction as code
use Rattle.gq_value.specs.Val.{Val, Int, UInt, Fraction}
use Rattle.gq_value.specs.Order.{tie_cmp, plain, order}
use Rattle.gq_value.specs.OrderLaws.{plain_total}
use Rattle.gq_value.specs.FractionLaws.{scaled}
use Rattle.gq_value.specs.Views.{val}
use Rattle.gq_value.specs.ViewLaws.{view_laws, val-Int, val-UInt, val-Fraction}

pub then-Equal : (o : Ordering) → ordering_then o Equal ≡ o
then-Equal Less = refl
then-Equal Equal = refl
then-Equal Greater = refl

mapped : (o : Ordering) (x y : ℕ) → MatchOrdering o (x < y) (x ≡ y) (y < x) → MatchOrdering o (pos x <ℤ pos y) (pos x ≡ pos y) (pos y <ℤ pos x)
mapped Less x y h = omega (arith, ints, h)
mapped Equal x y h = ap pos h
mapped Greater x y h = omega (arith, ints, h)

pub pos_cmp : (x y : ℕ) → nat_cmp x y ≡ int_cmp (pos x) (pos y)
pos_cmp x y = int_cmp_is (pos x) (pos y) (nat_cmp x y) (mapped (nat_cmp x y) x y (ranked x y (nat_cmp x y) refl))

-- a number over 1
times_one : (z : ℤ) → z *ℤ pos 1 ≡ z
unfolding one
times_one z = *ℤ-one z

pub int_int : (strict : Bool) (x y : ℤ) → plain strict (Int x) (Int y) ≡ int_cmp x y
int_int true x y = then-Equal (int_cmp (x *ℤ pos 1) (y *ℤ pos 1)) ∙ scaled x y 1
int_int false x y = then-Equal (int_cmp (x *ℤ pos 1) (y *ℤ pos 1)) ∙ scaled x y 1

pub uint_uint : (strict : Bool) (x y : ℕ) → plain strict (UInt x) (UInt y) ≡ nat_cmp x y
uint_uint true x y = then-Equal (int_cmp (pos x *ℤ pos 1) (pos y *ℤ pos 1)) ∙ scaled (pos x) (pos y) 1 ∙ sym (pos_cmp x y)
uint_uint false x y = then-Equal (int_cmp (pos x *ℤ pos 1) (pos y *ℤ pos 1)) ∙ scaled (pos x) (pos y) 1 ∙ sym (pos_cmp x y)

pub int_uint : (strict : Bool) (x : ℤ) (y : ℕ) → plain strict (Int x) (UInt y) ≡ ordering_then (int_cmp x (pos y)) (tie_cmp strict 0 1)
int_uint true x y = ap (λ o. ordering_then o Less) (scaled x (pos y) 1)
int_uint false x y = ap (λ o. ordering_then o Equal) (scaled x (pos y) 1)

pub int_to_fraction : (strict : Bool) (x s : ℤ) (n : ℕ) → plain strict (Int x) (Fraction s n) ≡ ordering_then (int_cmp (x *ℤ pos (max n 1)) s) (tie_cmp strict 0 1)
int_to_fraction true x s n = ap (λ z. ordering_then (int_cmp (x *ℤ pos (max n 1)) z) Less) (times_one s)
int_to_fraction false x s n = ap (λ z. ordering_then (int_cmp (x *ℤ pos (max n 1)) z) Equal) (times_one s)

pub uint_to_fraction : (strict : Bool) (x : ℕ) (s : ℤ) (n : ℕ) → plain strict (UInt x) (Fraction s n) ≡ ordering_then (int_cmp (pos (x * max n 1)) s) (tie_cmp strict 0 1)
uint_to_fraction true x s n = ap (λ z. ordering_then (int_cmp (pos (x * max n 1)) z) Less) (times_one s)
uint_to_fraction false x s n = ap (λ z. ordering_then (int_cmp (pos (x * max n 1)) z) Equal) (times_one s)

pub fractions : (strict : Bool) (s t : ℤ) (m n : ℕ) → plain strict (Fraction s m) (Fraction t n) ≡ ordering_then (int_cmp (s *ℤ pos (max n 1)) (t *ℤ pos (max m 1))) (tie_cmp strict m n)
fractions true s t m n = refl
fractions false s t m n = refl

-- the order with its operands exchanged
pub turned : (strict : Bool) (a b : Val) (o : Ordering) → o ≡ plain strict a b → ordering_reverse o ≡ plain strict b a
turned strict a b o h = ap ordering_reverse h ∙ sym ((plain_total strict).antisymm b a)

pub two_ints : (strict : Bool) (o : Ordering) (x y : ℤ) → o ≡ int_cmp x y → o ≡ order strict (val (value.Int x)) (val (value.Int y))
two_ints strict o x y h = rw (val-Int x, val-Int y) (h ∙ sym (then-Equal (plain strict (Int x) (Int y)) ∙ int_int strict x y))

-- the arms of two numbers whose types differ, with an INT as it is passed on
pub to_fraction : (strict : Bool) (o : Ordering) (x : ℤ) (f : code.Fraction) → FitsSigned w64 x → o ≡ plain strict (Int (to_z w64 (of_z w64 x))) (Fraction f.sum f.count) → o ≡ order strict (val (value.Int x)) (val (value.Fraction f))
to_fraction strict o x f fits h = rw (val-Int x, val-Fraction f) (h ∙ ap (λ z. plain strict (Int z) (Fraction f.sum f.count)) (to_z-of_z w64 x fits) ∙ sym (then-Equal (plain strict (Int x) (Fraction f.sum f.count))))

pub from_fraction : (strict : Bool) (o p : Ordering) (x : ℤ) (f : code.Fraction) → FitsSigned w64 x → o ≡ plain strict (Int (to_z w64 (of_z w64 x))) (Fraction f.sum f.count) → p ≡ ordering_reverse o → p ≡ order strict (val (value.Fraction f)) (val (value.Int x))
from_fraction strict o p x f fits h k = rw (val-Int x, val-Fraction f) (k ∙ turned strict (Int x) (Fraction f.sum f.count) o (h ∙ ap (λ z. plain strict (Int z) (Fraction f.sum f.count)) (to_z-of_z w64 x fits)) ∙ sym (then-Equal (plain strict (Fraction f.sum f.count) (Int x))))

pub from_uint : (strict : Bool) (o p : Ordering) (x : ℤ) (y : ℕ) → FitsSigned w64 x → o ≡ plain strict (Int (to_z w64 (of_z w64 x))) (UInt y) → p ≡ ordering_reverse o → p ≡ order strict (val (value.UInt y)) (val (value.Int x))
from_uint strict o p x y fits h k = rw (val-Int x, val-UInt y) (k ∙ turned strict (Int x) (UInt y) o (h ∙ ap (λ z. plain strict (Int z) (UInt y)) (to_z-of_z w64 x fits)) ∙ sym (then-Equal (plain strict (UInt y) (Int x))))

pub fraction_from_uint : (strict : Bool) (o p : Ordering) (x : ℕ) (f : code.Fraction) → o ≡ plain strict (UInt x) (Fraction f.sum f.count) → p ≡ ordering_reverse o → p ≡ order strict (val (value.Fraction f)) (val (value.UInt x))
fraction_from_uint strict o p x f h k = rw (val-UInt x, val-Fraction f) (k ∙ turned strict (UInt x) (Fraction f.sum f.count) o h ∙ sym (then-Equal (plain strict (Fraction f.sum f.count) (UInt x))))

pub two_fractions : (strict : Bool) (o : Ordering) (f g : code.Fraction) → o ≡ plain strict (Fraction f.sum f.count) (Fraction g.sum g.count) → o ≡ order strict (val (value.Fraction f)) (val (value.Fraction g))
two_fractions strict o f g h = rw (val-Fraction f, val-Fraction g) (h ∙ sym (then-Equal (plain strict (Fraction f.sum f.count) (Fraction g.sum g.count))))

pub ruleset order_steps = (view_laws, then-Equal, int_int, uint_uint)

pub ruleset row_steps = (view_laws)
