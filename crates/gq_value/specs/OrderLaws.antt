-- OrderLaws: the order of values is total, and the strict order makes only a value equal to itself.
-- The recursion through tuples is taken a layer of tuples at a time; every layer is total, and so is their limit.
use Rattle.std.proofs.Common.{◌≡◌, ℕ, zero, suc, ◌<◌, ◌≤◌, max, Bool, true, false, [], Ordering, Equal, refl, ap, ap₂, arith}
use Rattle.std.specs.Ordering.{ordering_then, on, then_cmp}
use Rattle.std.specs.Cmp.{IsTotalOrder}
use Rattle.std.specs.Cmp.Lexicographic.{slice_cmp}
use Rattle.std.specs.Cmp.Derive.Recursive.{limit_total}
use Rattle.std.proofs.lemmas.Cmp.{then_total, on_total, lists_total, nat_list_cmp_total, nat_cmp_total}
use Rattle.gq_value.specs.Val.{Val, Vals, Int, UInt, Truth, Text, Vertex, Tuple, Fraction, none, more, rank, count, index, bytes, fields, tag, list_of}
use Rattle.gq_value.specs.Order.{ratio, tie_cmp, plain, empty_cmp, order_within, order_rows, order, place, compare}
use Rattle.gq_value.specs.FractionLaws.{exactly_total}
pub use Rattle.gq_value.specs.SameLaws.{then_equal, place_same}

never : {K : Type 0} → IsTotalOrder {K = K} (λ x y. Equal)
never = record { antisymm = λ x y. refl; trans = λ x y z h k. h; congr = λ x y z h. refl }

tie_total : (strict : Bool) → IsTotalOrder (tie_cmp strict)
tie_total true = nat_cmp_total
tie_total false = never

pub plain_total : (strict : Bool) → IsTotalOrder (plain strict)
plain_total strict = then_total (on_total rank nat_cmp_total) (then_total (on_total ratio exactly_total) (then_total (on_total index nat_cmp_total) (then_total (on_total bytes nat_list_cmp_total) (then_total (on_total tag (tie_total strict)) (on_total count (tie_total strict))))))

-- the order of values whose tuples are nested less than n deep
layered : Bool → ℕ → Val → Val → Ordering
layered strict zero = plain strict
layered strict (suc n) = then_cmp (plain strict) (on (λ v. list_of (fields v)) (slice_cmp (layered strict n)))

layered_total : (strict : Bool) (n : ℕ) → IsTotalOrder (layered strict n)
unfolding layered
layered_total strict zero = plain_total strict
layered_total strict (suc n) = then_total (plain_total strict) (on_total (λ v. list_of (fields v)) (lists_total (layered_total strict n)))

abbrev mutual
  depth : Val → ℕ
  depth (Tuple row) = depths row
  depth v = 0

  depths : Vals → ℕ
  depths none = 0
  depths (more v row) = max (suc (depth v)) (depths row)

empty_is : (strict : Bool) (n : ℕ) (bs : Vals) → slice_cmp (layered strict n) [] (list_of bs) ≡ empty_cmp bs
empty_is strict n none = refl
empty_is strict n (more b bs) = refl

mutual
  unfolding layered

  within_is : (strict : Bool) (n : ℕ) (a : Val) (bs : Vals) → depth a ≤ n → slice_cmp (layered strict n) (list_of (fields a)) (list_of bs) ≡ order_within strict a bs
  within_is strict n (Int k) bs h = empty_is strict n bs
  within_is strict n (UInt k) bs h = empty_is strict n bs
  within_is strict n (Truth k) bs h = empty_is strict n bs
  within_is strict n (Text k) bs h = empty_is strict n bs
  within_is strict n (Vertex k) bs h = empty_is strict n bs
  within_is strict n (Tuple row) bs h = rows_is strict n row bs h
  within_is strict n (Fraction s k) bs h = empty_is strict n bs

  rows_is : (strict : Bool) (n : ℕ) (row bs : Vals) → depths row ≤ n → slice_cmp (layered strict n) (list_of row) (list_of bs) ≡ order_rows strict row bs
  rows_is strict n none bs h = empty_is strict n bs
  rows_is strict n (more a row) none h = refl
  rows_is strict zero (more a row) (more b bs) h = absurd (omega (arith, h))
  rows_is strict (suc n) (more a row) (more b bs) h = ap₂ ordering_then
      (ap (ordering_then (plain strict a b)) (within_is strict n a (fields b) (omega (arith, h))))
      (rows_is strict (suc n) row bs (omega (arith, h)))

comes_to : (strict : Bool) (n : ℕ) (a b : Val) → depth a < n → depth b < n → layered strict n a b ≡ order strict a b
unfolding layered
comes_to strict zero a b h k = absurd (omega (arith, h))
comes_to strict (suc n) a b h k = ap (ordering_then (plain strict a b)) (within_is strict n a (fields b) (omega (arith, h)))

pub order_total : (strict : Bool) → IsTotalOrder (order strict)
order_total strict = limit_total depth (layered strict) (order strict) (comes_to strict) (layered_total strict)

pub place_total : IsTotalOrder place
place_total = order_total true

pub compare_total : IsTotalOrder compare
compare_total = order_total false
