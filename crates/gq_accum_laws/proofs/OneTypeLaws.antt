-- On values of one type the order of contents is that of GSQL's comparisons: equal numbers leave no tie to break.
use Rattle.std.proofs.Common.{◌≡◌, ℕ, true, false, Equal, nat_cmp, refl, sym, ap, ap₂, ◌∙◌}
use Rattle.std.specs.Ordering.{ordering_then}
use Rattle.std.specs.Cmp.Lexicographic.{slice_cmp}
use Rattle.std.proofs.lemmas.Cmp.{nat_cmp_total, tied_itself}
use Rattle.gq_value.specs.Val.{Val, Vals, Int, UInt, Truth, Text, Vertex, Tuple, none, more, fields, tag, count, rank, index, bytes}
use Rattle.gq_value.specs.Order.{order_rows, order_within, plain, exactly, ratio}
use Rattle.gq_value.specs.Accums.{Base, INT, UINT, BOOL, STRING, DATETIME, VERTEX, VERTEX_OF, TUPLE, Bases, no_base, base_and}
use Rattle.gq_value.specs.Typed.{is_of, are_of}
use Rattle.gq_accum_laws.specs.Laws.{OneTypeLaw}
use Rattle.gq_accum_laws.proofs.KindLaws.{both}

false_apart : {P : Type 0} → false ≡ true → P
false_apart h = absurd (cc h)

-- the tag that values of a type have
abbrev tag_of : Base → ℕ
tag_of UINT = 1
tag_of b = 0

tagged : (b : Base) (v : Val) → is_of b v ≡ true → (tag v ≡ tag_of b) × (count v ≡ 1)
tagged INT (Int x) h = (refl, refl)
tagged UINT (UInt n) h = (refl, refl)
tagged BOOL (Truth t) h = (refl, refl)
tagged STRING (Text s) h = (refl, refl)
tagged DATETIME (Int x) h = (refl, refl)
tagged VERTEX (Vertex n) h = (refl, refl)
tagged (VERTEX_OF t) (Vertex n) h = (refl, refl)
tagged (TUPLE n bs) (Tuple row) h = (refl, refl)
tagged b v h = false_apart h

same_cmp : (m n : ℕ) → m ≡ n → nat_cmp m n ≡ Equal
same_cmp m n e = ap (nat_cmp m) (sym e) ∙ tied_itself nat_cmp_total m

-- values with one tag and one count need no tie
plain_is : (v w : Val) → tag v ≡ tag w → count v ≡ count w → plain true v w ≡ plain false v w
plain_is v w t c =
    let e : ordering_then (nat_cmp (tag v) (tag w)) (nat_cmp (count v) (count w)) ≡ ordering_then Equal Equal = ap₂ ordering_then (same_cmp (tag v) (tag w) t) (same_cmp (count v) (count w) c) in
    ap (λ o. ordering_then (nat_cmp (rank v) (rank w)) (ordering_then (exactly (ratio v) (ratio w)) (ordering_then (nat_cmp (index v) (index w)) (ordering_then (slice_cmp nat_cmp (bytes v) (bytes w)) o)))) e

plain_typed : (b : Base) (v w : Val) → is_of b v ≡ true → is_of b w ≡ true → plain true v w ≡ plain false v w
plain_typed b v w h g = let p = tagged b v h in let q = tagged b w g in plain_is v w (p.0 ∙ sym q.0) (p.1 ∙ sym q.1)

mutual
  within_is : (b : Base) (v w : Val) → is_of b v ≡ true → is_of b w ≡ true → order_within true v (fields w) ≡ order_within false v (fields w)
  within_is (TUPLE n bs) (Tuple row) (Tuple other) h g = rows_is bs row other h g
  within_is (TUPLE n bs) (Tuple row) w h g = false_apart g
  within_is b (Tuple row) w h g = false_apart h
  within_is b v w h g = refl

  rows_is : (bs : Bases) (vs ws : Vals) → are_of bs vs ≡ true → are_of bs ws ≡ true → order_rows true vs ws ≡ order_rows false vs ws
  rows_is no_base none none h g = refl
  rows_is (base_and b bs) (more v vs) (more w ws) h g =
      let p = both (is_of b v) (are_of bs vs) h in let q = both (is_of b w) (are_of bs ws) g in
      ap₂ ordering_then (ap₂ ordering_then (plain_typed b v w p.0 q.0) (within_is b v w p.0 q.0)) (rows_is bs vs ws p.1 q.1)
  rows_is no_base none (more w ws) h g = false_apart g
  rows_is no_base (more v vs) ws h g = false_apart h
  rows_is (base_and b bs) none ws h g = false_apart h
  rows_is (base_and b bs) (more v vs) none h g = false_apart g

pub one_type_law : OneTypeLaw
one_type_law b v w h g = ap₂ ordering_then (plain_typed b v w h g) (within_is b v w h g)
