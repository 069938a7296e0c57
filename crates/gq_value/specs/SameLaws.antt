-- SameLaws: values that are equal in the strict order are the same, since a value can be rebuilt from its parts.
use Rattle.std.proofs.Common.{◌≡◌, ℕ, zero, suc, ℤ, pos, ◌*ℤ◌, max, Bool, true, false, List, [], ◌∷◌, nat_cmp, int_cmp, Ordering, Less, Equal, Greater, nat_abs, refl, sym, ap, ap₂, ◌∙◌}
use Rattle.std.specs.Ordering.{ordering_then}
use Rattle.std.specs.Cmp.Lexicographic.{slice_cmp}
use Rattle.std.proofs.lemmas.Cmp.{ranked}
use Rattle.gq_value.specs.Val.{Val, Vals, Int, UInt, Truth, Text, Vertex, Tuple, Fraction, none, more, rank, above, count, index, bytes, fields, tag}
use Rattle.gq_value.specs.Order.{exactly, ratio, plain, empty_cmp, order_within, order_rows, order, place}
use Rattle.gq_value.specs.FractionLaws.{scaled, int_same}

less_apart : Less ≡ Equal → ⊥
less_apart h = cc

greater_apart : Greater ≡ Equal → ⊥
greater_apart h = cc

-- two orders in sequence compare equal only if both do
pub then_equal : (o p : Ordering) → ordering_then o p ≡ Equal → (o ≡ Equal) × (p ≡ Equal)
then_equal Less p h = (h, absurd (less_apart h))
then_equal Equal p h = (refl, h)
then_equal Greater p h = (h, absurd (greater_apart h))

nat_same : (x y : ℕ) → nat_cmp x y ≡ Equal → x ≡ y
nat_same x y h = ranked x y Equal (sym h)

bytes_same : (xs ys : List ℕ) → slice_cmp nat_cmp xs ys ≡ Equal → xs ≡ ys
bytes_same [] [] h = refl
bytes_same [] (y ∷ ys) h = absurd (less_apart h)
bytes_same (x ∷ xs) [] h = absurd (greater_apart h)
bytes_same (x ∷ xs) (y ∷ ys) h = let s = then_equal (nat_cmp x y) (slice_cmp nat_cmp xs ys) h in ap₂ ◌∷◌ (nat_same x y s.0) (bytes_same xs ys s.1)

-- equal fractions of one count have equal sums
above_same : (a b : Val) → exactly (ratio a) (ratio b) ≡ Equal → count a ≡ count b → above a ≡ above b
above_same a b h c = int_same (above a) (above b) (sym (scaled (above a) (above b) (count b)) ∙ ap (λ n. int_cmp (above a *ℤ pos (max (count b) 1)) (above b *ℤ pos (max n 1))) (sym c) ∙ h)

truth_of : ℕ → Bool
truth_of zero = false
truth_of (suc n) = true

-- a value of these parts: rank, tag, above, count, index, bytes, fields
abbrev rebuild : ℕ → ℕ → ℤ → ℕ → ℕ → List ℕ → Vals → Val
rebuild zero zero z c i bs row = Int z
rebuild zero (suc zero) z c i bs row = UInt (nat_abs z)
rebuild zero (suc (suc t)) z c i bs row = Fraction z c
rebuild (suc zero) t z c i bs row = Truth (truth_of i)
rebuild (suc (suc zero)) t z c i bs row = Text bs
rebuild (suc (suc (suc zero))) t z c i bs row = Vertex i
rebuild (suc (suc (suc (suc r)))) t z c i bs row = Tuple row

rebuilt : (v : Val) → rebuild (rank v) (tag v) (above v) (count v) (index v) (bytes v) (fields v) ≡ v
unfolding truth_of
rebuilt (Int k) = refl
rebuilt (UInt k) = refl
rebuilt (Truth false) = refl
rebuilt (Truth true) = refl
rebuilt (Text k) = refl
rebuilt (Vertex k) = refl
rebuilt (Tuple row) = refl
rebuilt (Fraction s n) = refl

all_same : (a b : Val) → rank a ≡ rank b → tag a ≡ tag b → above a ≡ above b → count a ≡ count b → index a ≡ index b → bytes a ≡ bytes b → fields a ≡ fields b → a ≡ b
all_same a b r t z c n s f = sym (rebuilt a) ∙ (λ i. rebuild (r i) (t i) (z i) (c i) (n i) (s i) (f i)) ∙ rebuilt b

plain_same : (a b : Val) → plain true a b ≡ Equal → fields a ≡ fields b → a ≡ b
plain_same a b h f =
    let r = then_equal (nat_cmp (rank a) (rank b)) _ h in
    let q = then_equal (exactly (ratio a) (ratio b)) _ r.1 in
    let n = then_equal (nat_cmp (index a) (index b)) _ q.1 in
    let s = then_equal (slice_cmp nat_cmp (bytes a) (bytes b)) _ n.1 in
    let t = then_equal (nat_cmp (tag a) (tag b)) _ s.1 in
    let c = nat_same (count a) (count b) t.1 in
    all_same a b (nat_same _ _ r.0) (nat_same _ _ t.0) (above_same a b q.0 c) c (nat_same _ _ n.0) (bytes_same _ _ s.0) f

empty_same : (bs : Vals) → empty_cmp bs ≡ Equal → none ≡ bs
empty_same none h = refl
empty_same (more b bs) h = absurd (less_apart h)

mutual
  within_same : (a : Val) (bs : Vals) → order_within true a bs ≡ Equal → fields a ≡ bs
  within_same (Int k) bs h = empty_same bs h
  within_same (UInt k) bs h = empty_same bs h
  within_same (Truth k) bs h = empty_same bs h
  within_same (Text k) bs h = empty_same bs h
  within_same (Vertex k) bs h = empty_same bs h
  within_same (Tuple row) bs h = rows_same row bs h
  within_same (Fraction s n) bs h = empty_same bs h

  rows_same : (row bs : Vals) → order_rows true row bs ≡ Equal → row ≡ bs
  rows_same none bs h = empty_same bs h
  rows_same (more a row) none h = absurd (greater_apart h)
  rows_same (more a row) (more b bs) h =
      let s = then_equal (order true a b) (order_rows true row bs) h in
      let t = then_equal (plain true a b) (order_within true a (fields b)) s.0 in
      ap₂ more (plain_same a b t.0 (within_same a (fields b) t.1)) (rows_same row bs s.1)

pub place_same : (a b : Val) → place a b ≡ Equal → a ≡ b
place_same a b h =
    let t = then_equal (plain true a b) (order_within true a (fields b)) h in
    plain_same a b t.0 (within_same a (fields b) t.1)
