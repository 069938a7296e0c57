-- AgreeLemmas: among values of one type the two orders are the same.
use Rattle.std.proofs.Common.{◌≡◌, ℕ, true, false, nat_cmp, Equal, refl, sym, ap, ap₂, ◌∙◌}
use Rattle.std.specs.Ordering.{ordering_then}
use Rattle.std.specs.Cmp.Lexicographic.{slice_cmp}
use Rattle.std.proofs.lemmas.Cmp.{tied_itself, nat_cmp_total}
use Rattle.gq_value.specs.Val.{Val, Vals, Int, UInt, Truth, Text, Vertex, Tuple, Fraction, none, more, rank, count, index, bytes, fields, tag}
use Rattle.gq_value.specs.Order.{exactly, ratio, tie_cmp, plain, order_within, order_rows, place, compare, Alike, AlikeRows}

tie_agrees : (m n : ℕ) → m ≡ n → tie_cmp true m n ≡ Equal
tie_agrees m n h = ap (λ k. nat_cmp m k) (sym h) ∙ tied_itself nat_cmp_total m

plain_agrees : (a b : Val) → tag a ≡ tag b → count a ≡ count b → plain true a b ≡ plain false a b
plain_agrees a b t c = ap (λ o. ordering_then (nat_cmp (rank a) (rank b)) (ordering_then (exactly (ratio a) (ratio b)) (ordering_then (nat_cmp (index a) (index b)) (ordering_then (slice_cmp nat_cmp (bytes a) (bytes b)) o))))
    (ap₂ ordering_then (tie_agrees (tag a) (tag b) t) (tie_agrees (count a) (count b) c))

-- a tuple compares with a value by rank, or field by field
tuple_agrees : (row : Vals) (b : Val) → plain true (Tuple row) b ≡ plain false (Tuple row) b
tuple_agrees row (Int k) = refl
tuple_agrees row (UInt k) = refl
tuple_agrees row (Truth k) = refl
tuple_agrees row (Text k) = refl
tuple_agrees row (Vertex k) = refl
tuple_agrees row (Tuple bs) = refl
tuple_agrees row (Fraction s n) = refl

mutual
  alike_plain : (a b : Val) → Alike a b → plain true a b ≡ plain false a b
  alike_plain (Int k) b h = plain_agrees (Int k) b h.0 h.1
  alike_plain (UInt k) b h = plain_agrees (UInt k) b h.0 h.1
  alike_plain (Truth k) b h = plain_agrees (Truth k) b h.0 h.1
  alike_plain (Text k) b h = plain_agrees (Text k) b h.0 h.1
  alike_plain (Vertex k) b h = plain_agrees (Vertex k) b h.0 h.1
  alike_plain (Tuple row) b h = tuple_agrees row b
  alike_plain (Fraction s n) b h = plain_agrees (Fraction s n) b h.0 h.1

  alike_within : (a b : Val) → Alike a b → order_within true a (fields b) ≡ order_within false a (fields b)
  alike_within (Int k) b h = refl
  alike_within (UInt k) b h = refl
  alike_within (Truth k) b h = refl
  alike_within (Text k) b h = refl
  alike_within (Vertex k) b h = refl
  alike_within (Tuple row) b h = alike_rows row (fields b) h
  alike_within (Fraction s n) b h = refl

  alike_rows : (row bs : Vals) → AlikeRows row bs → order_rows true row bs ≡ order_rows false row bs
  alike_rows none bs h = refl
  alike_rows (more a row) none h = refl
  alike_rows (more a row) (more b bs) h = ap₂ ordering_then (ap₂ ordering_then (alike_plain a b h.0) (alike_within a b h.0)) (alike_rows row bs h.1)

pub orders_agree : (a b : Val) → Alike a b → place a b ≡ compare a b
orders_agree a b h = ap₂ ordering_then (alike_plain a b h) (alike_within a b h)
