-- Order: the order of values: by GSQL's comparisons, and as keys, where only the same value is equal. Numbers and averages
-- come first, by their exact value; then false and true; then texts by their bytes; then vertices by their number; then
-- tuples, field by field. The code matches on the two variants and compares their contents; here all values are
-- compared part by part.
use Rattle.std.specs.Prelude.{◌≡◌, ℕ, ℤ, pos, ◌*ℤ◌, max, Bool, true, false}
use Rattle.std.specs.declared.cmp.Ordering.{Ordering}
use Rattle.std.specs.Ordering.{nat_cmp, int_cmp, ordering_then, on, then_cmp}
use Rattle.std.specs.declared.cmp.Ordering.TheVariants.{Less, Equal, Greater}
use Rattle.std.specs.Cmp.Lexicographic.{slice_cmp}
use Rattle.gq_value.specs.Val.{Val, Vals, Tuple, none, more, rank, above, count, index, bytes, fields, tag}

-- a sum over a count against another one, by cross products; a count is at least 1, and 0 counts as 1
abbrev pub exactly : ℤ × ℕ → ℤ × ℕ → Ordering
exactly p q = int_cmp (p.0 *ℤ pos (max q.1 1)) (q.0 *ℤ pos (max p.1 1))

-- a number as a sum over a count
abbrev pub ratio : Val → ℤ × ℕ
ratio v = (above v, count v)

-- the tie-break between numbers of one exact value, if ties are to be broken
abbrev pub tie_cmp : Bool → ℕ → ℕ → Ordering
tie_cmp true m n = nat_cmp m n
tie_cmp false m n = Equal

-- all but the fields of tuples
abbrev pub plain : Bool → Val → Val → Ordering
plain strict = then_cmp (on rank nat_cmp) (then_cmp (on ratio exactly) (then_cmp (on index nat_cmp) (then_cmp (on bytes (slice_cmp nat_cmp)) (then_cmp (on tag (tie_cmp strict)) (on count (tie_cmp strict))))))

abbrev pub empty_cmp : Vals → Ordering
empty_cmp none = Equal
empty_cmp (more b bs) = Less

abbrev mutual
  -- the fields of a value against those of another
  pub order_within : Bool → Val → Vals → Ordering
  order_within strict (Tuple row) bs = order_rows strict row bs
  order_within strict a bs = empty_cmp bs

  -- two rows: the first difference decides; without one, the shorter row comes first
  pub order_rows : Bool → Vals → Vals → Ordering
  order_rows strict none bs = empty_cmp bs
  order_rows strict (more a row) none = Greater
  order_rows strict (more a row) (more b bs) = ordering_then (ordering_then (plain strict a b) (order_within strict a (fields b))) (order_rows strict row bs)

-- strict: numbers of one exact value are ordered by their type, and fractions by their count; else they are equal
abbrev pub order : Bool → Val → Val → Ordering
order strict a b = ordering_then (plain strict a b) (order_within strict a (fields b))

-- numbers by their exact value, whatever their type: the order of GSQL's comparisons
abbrev pub compare : Val → Val → Ordering
compare = order false

-- the same, but equal only at the same value: for the places of values in contents
abbrev pub place : Val → Val → Ordering
place = order true

abbrev mutual
  -- values of one type: numbers are all INT, all UINT or all averages of one count, and tuples are alike field by field
  pub Alike : Val → Val → Type 0
  Alike (Tuple row) b = AlikeRows row (fields b)
  Alike a b = (tag a ≡ tag b) × (count a ≡ count b)

  pub AlikeRows : Vals → Vals → Type 0
  AlikeRows none bs = Unit {0}
  AlikeRows (more a row) none = Unit {0}
  AlikeRows (more a row) (more b bs) = Alike a b × AlikeRows row bs
